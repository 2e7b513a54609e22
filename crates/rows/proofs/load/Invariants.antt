-- `rows::load` meets its contract. The loop's invariant: the first values of the row are read.
-- Assumes nothing.
use Rattle.std.proofs.Common.{get_or}
use Rattle.lists.proofs.Tabs.{Written}
use Rattle.rows.proofs.load.Given as goal

abbrev pub invariant-loop-l : goal.invariant-loop-l
invariant-loop-l g l = Written 0 l.l (λ k. get_or (g.E.Element.numbers l.source) k 0) (g.E.Element.numbers l.initial.x) (g.E.Element.numbers l.x)
