-- `packing::pack_split` meets its contract. The invariant of both loops: before row r, the words that are full
-- stand in the packed block, and the others are held. A turn of the inner loop leaves room in its words, so there is a
-- next row.
-- Assumes nothing.
use Rattle.std.proofs.Common.{◌-◌, ◌≤◌, ◌<◌}
use Rattle.packing.proofs.Walks.{Packing}
use Rattle.packing.proofs.pack_split.Given as goal

abbrev pub invariant-loop-s : goal.invariant-loop-s
invariant-loop-s g l =
    let numbers = g.E.Element.numbers in
    (l.initial.r ≤ l.r) × (l.r < g.row.T) × Packing g.row.T l.width (numbers l.values) l.r (numbers l.packed) (numbers l.held) l.s l.word l.start

abbrev pub decreases-loop-s : goal.decreases-loop-s
decreases-loop-s g l = g.row.T - l.r

abbrev pub invariant-loop-r : goal.invariant-loop-r
invariant-loop-r g l =
    let numbers = g.E.Element.numbers in
    (l.r ≤ g.row.T) × Packing g.row.T l.width (numbers l.values) l.r (numbers l.packed) (numbers l.held) l.s l.word l.start

abbrev pub decreases-loop-r : goal.decreases-loop-r
decreases-loop-r g l = g.row.T - l.r
