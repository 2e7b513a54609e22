-- `deltas::frame_split` meets its contract. The invariant of both loops: before row r of the frame, the words that
-- are full stand in the packed block, and the others are held. A turn of the inner loop leaves room in its words, so
-- there is a next row.
-- Assumes nothing.
use Prim.Native.Nat.{◌-◌, ◌≤◌, ◌<◌}
use Rattle.packing.proofs.Walks.{Packing}
use Rattle.deltas.specs.Deltas.{frame_of}
use Rattle.deltas.proofs.frame_split.Given as goal

abbrev pub invariant-loop-s : goal.invariant-loop-s
invariant-loop-s g l =
    let numbers = g.E.Element.numbers in
    let frame = frame_of g.row.T (numbers l.values) (g.E.Element.number l.fn.reference) in
    (l.initial.r ≤ l.r) × (l.r < g.row.T) × Packing g.row.T l.width frame l.r (numbers l.packed) (numbers l.held) l.s l.word l.start

abbrev pub decreases-loop-s : goal.decreases-loop-s
decreases-loop-s g l = g.row.T - l.r

abbrev pub invariant-loop-r : goal.invariant-loop-r
invariant-loop-r g l =
    let numbers = g.E.Element.numbers in
    let frame = frame_of g.row.T (numbers l.values) (g.E.Element.number l.fn.reference) in
    (l.r ≤ g.row.T) × Packing g.row.T l.width frame l.r (numbers l.packed) (numbers l.held) l.s l.word l.start

abbrev pub decreases-loop-r : goal.decreases-loop-r
decreases-loop-r g l = g.row.T - l.r
