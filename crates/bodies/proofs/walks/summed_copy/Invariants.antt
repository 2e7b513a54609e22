-- `bodies::walks::summed_copy` meets its contract. The loop's invariant: the first r rows are summed, prev is the last of
-- them, and row r starts at `start`.
-- Assumes nothing.
use Rattle.places.specs.Sizes.{t64}
use Rattle.rows.proofs.Blocks.{Starts}
use Rattle.packing.specs.Packed.{unpack_of}
use Rattle.deltas.proofs.Walks.{Summing}
use Rattle.bodies.specs.Bodies.{packed_from}
use Rattle.bodies.proofs.walks.summed_copy.Given as goal

abbrev pub invariant-loop-r : goal.invariant-loop-r
invariant-loop-r l =
    Starts l.r l.start × Summing t64 (unpack_of t64 t64 (packed_from l.body 0 t64)) l.base l.r l.values l.prev
