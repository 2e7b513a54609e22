-- `trickle::copy_in` meets its contract. The loop's invariant: the first i bytes are written.
-- Assumes nothing.
use lib.ListN.{get_or}
use Rattle.lists.proofs.Tabs.{Written}
use Rattle.trickle.proofs.copy_in.Given as goal

abbrev pub invariant-loop-i : goal.invariant-loop-i
invariant-loop-i l = Written l.at l.i (λ k. get_or l.from k 0) l.initial.to l.to
