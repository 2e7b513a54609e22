-- `little::fill_pairs` meets its contract. The loop's invariant: the first i numbers are read.
-- Assumes nothing.
use Prim.Native.Nat.{◌*◌}
use Rattle.lists.proofs.Tabs.{Written}
use Rattle.little.specs.Little.{little}
use Rattle.little.proofs.fill_pairs.Given as goal

abbrev pub invariant-loop-i : goal.invariant-loop-i
invariant-loop-i l =
    Written 0 l.i (λ k. little l.bytes (k * 2) 2) l.initial.pairs l.pairs
