-- `packing::clear` meets its contract. The loop's invariant: the first values are zeros.
-- Assumes nothing.
use Rattle.lists.proofs.Tabs.{Written}
use Rattle.packing.proofs.clear.Given as goal

abbrev pub invariant-loop-v : goal.invariant-loop-v
invariant-loop-v g l = Written 0 l.v-index (λ _. 0) (g.E.Element.numbers l.initial.v-items) (g.E.Element.numbers l.v-items)
