-- `deltas::copy_sums` meets its contract. The loop's invariant: the first r rows are summed, prev is the last of
-- them, and row r starts at `start`.
-- Assumes nothing.
use Rattle.rows.proofs.Blocks.{Starts}
use Rattle.packing.specs.Packed.{unpack_of}
use Rattle.deltas.proofs.Walks.{Summing}
use Rattle.deltas.proofs.copy_sums.Given as goal

abbrev pub invariant-loop-r : goal.invariant-loop-r
invariant-loop-r g l =
    let numbers = g.E.Element.numbers in
    Starts l.r l.start × Summing g.row.T (unpack_of g.row.T g.row.T (numbers l.packed)) (numbers l.base) l.r (numbers l.values) (numbers l.prev)
