-- `candidates::differences::steps_copy` meets its contract. The loop's invariant: the first r rows of words are those
-- of the differences, row r starts at `start`, and the row before it at `before`.
-- Assumes nothing.
use Rattle.places.specs.Sizes.{t64}
use Rattle.rows.proofs.Blocks.{Starts}
use Rattle.packing.proofs.Walks.{Filled}
use Rattle.candidates.specs.Candidates.{differences}
use Rattle.candidates.proofs.Steps.{Before}
use Rattle.candidates.proofs.differences.steps_copy.Given as goal

abbrev pub invariant-loop-r : goal.invariant-loop-r
invariant-loop-r l =
    Starts l.r l.start × Before l.r l.before × Filled t64 t64 (differences l.values) l.r l.packed
