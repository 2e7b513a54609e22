-- `deltas::repeat` meets its contract. The loop's invariant: the first r rows of places hold the row again and again.
-- Assumes nothing.
use Rattle.std.proofs.Common.{◌*◌, get_or}
use Rattle.lists.proofs.Tabs.{Written}
use Rattle.places.specs.Places.{lane}
use Rattle.places.specs.Sizes.{lanes}
use Rattle.deltas.proofs.repeat.Given as goal

abbrev pub invariant-loop-r : goal.invariant-loop-r
invariant-loop-r g l =
    let numbers = g.E.Element.numbers in
    Written 0 (lanes g.row.T * l.r) (λ p. get_or (numbers l.row) (lane g.row.T p) 0) (numbers l.initial.values) (numbers l.values)
