-- `deltas::frame_copy` meets its contract. The loop's invariant: the first r rows of words are the frame's, and
-- row r starts at `start`.
-- Assumes nothing.
use Rattle.rows.proofs.Blocks.{Starts}
use Rattle.packing.proofs.Walks.{Filled}
use Rattle.deltas.specs.Deltas.{frame_of}
use Rattle.deltas.proofs.frame_copy.Given as goal

abbrev pub invariant-loop-r : goal.invariant-loop-r
invariant-loop-r g l =
    let numbers = g.E.Element.numbers in
    Starts l.r l.start × Filled g.row.T g.row.T (frame_of g.row.T (numbers l.values) (g.E.Element.number l.fn.reference)) l.r (numbers l.packed)
