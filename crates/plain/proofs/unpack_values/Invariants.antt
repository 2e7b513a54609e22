-- `plain::unpack_values` meets its contract. The loop's invariant: the first p values stand in their places.
-- Assumes nothing.
use Rattle.lists.proofs.Tabs.{Written}
use Rattle.plain.specs.Plain.{plain_value}
use Rattle.plain.proofs.unpack_values.Given as goal

abbrev pub invariant-loop-p : goal.invariant-loop-p
invariant-loop-p g l = Written 0 l.p (plain_value g.row.T l.width (g.E.Element.numbers l.packed)) (g.E.Element.numbers l.initial.values) (g.E.Element.numbers l.values)
