-- `access::indices::look_up_within` meets its contract. The loop's invariant: the first i outputs hold the values at their
-- indices, and what they read and what is left are the budget.
-- Assumes nothing.
use Rattle.std.proofs.Common.{get_or}
use Rattle.lists.proofs.Tabs.{Written}
use Rattle.packing.specs.Packed.{value_at}
use Rattle.access.proofs.Budgets.{Spent}
use Rattle.access.proofs.indices.look_up_within.Given as goal

abbrev pub invariant-loop-i : goal.invariant-loop-i
invariant-loop-i g l =
    Written 0 l.i (λ i. value_at g.row.T l.width (g.E.Element.numbers l.packed) (get_or l.indices i 0)) (g.E.Element.numbers l.initial.output) (g.E.Element.numbers l.output)
    × Spent g.row.T l.width l.indices l.budget l.i l.left
