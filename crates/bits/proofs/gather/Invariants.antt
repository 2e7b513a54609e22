-- `bits::gather` meets its contract. The loop's invariant: x is the number of the first i bytes.
-- Assumes nothing.
use Prim.Native.Nat.{◌+◌, ◌*◌}
use lib.ListN.{get_or}
use Rattle.bits.proofs.Gathers.{Gathered}
use Rattle.bits.proofs.gather.Given as goal

abbrev pub invariant-loop-i : goal.invariant-loop-i
invariant-loop-i l = Gathered (λ i. get_or l.bytes (l.start + i * l.step) 0) l.i l.x
