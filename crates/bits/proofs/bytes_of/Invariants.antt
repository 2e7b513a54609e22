-- `bits::bytes_of` meets its contract. The loop's invariant: the bytes of the first k numbers are written.
-- Assumes nothing.
use Prim.Native.Nat.{◌*◌}
use Rattle.lists.proofs.Tabs.{Written}
use Rattle.bits.specs.InnerSteps.{byte_at}
use Rattle.bits.proofs.bytes_of.Given as goal

abbrev pub invariant-loop-k : goal.invariant-loop-k
invariant-loop-k l = Written 0 (l.k * 8) (byte_at l.block) l.initial.bytes l.bytes
