-- `rows::wrapping_sub` meets its contract. The loop's invariant: the first values of the row are differences.
-- Assumes nothing.
use Rattle.std.proofs.Common.{get_or}
use Rattle.lists.specs.Numbers.{minus}
use Rattle.lists.proofs.Tabs.{Written}
use Rattle.rows.proofs.wrapping_sub.Given as goal

abbrev pub invariant-loop-l : goal.invariant-loop-l
invariant-loop-l g vars = Written 0 vars.l (λ l. minus g.row.T (get_or (g.E.Element.numbers vars.fn.x) l 0) (get_or (g.E.Element.numbers vars.fn.y) l 0)) (g.E.Element.numbers vars.fn.x) (g.E.Element.numbers vars.z)
