-- `candidates::differences::steps_split` meets its contract. The invariant of both loops: before row r of the
-- differences, the words that are full stand in the packed block, the others are held, and the row before starts at
-- `before`. A turn of the inner loop leaves room in its words, so there is a next row.
-- Assumes nothing.
use Rattle.std.proofs.Common.{◌-◌, ◌<◌, ◌≤◌}
use Rattle.places.specs.Sizes.{t64}
use Rattle.packing.proofs.Walks.{Packing}
use Rattle.candidates.specs.Candidates.{differences}
use Rattle.candidates.proofs.Steps.{Before}
use Rattle.candidates.proofs.differences.steps_split.Given as goal

abbrev pub invariant-loop-s : goal.invariant-loop-s
invariant-loop-s l =
    (l.initial.r ≤ l.r) × (l.r < t64) × Before l.r l.before × Packing t64 l.width (differences l.values) l.r l.packed l.held l.s l.word l.start

abbrev pub decreases-loop-s : goal.decreases-loop-s
decreases-loop-s l = t64 - l.r

abbrev pub invariant-loop-r : goal.invariant-loop-r
invariant-loop-r l =
    (l.r ≤ t64) × Before l.r l.before × Packing t64 l.width (differences l.values) l.r l.packed l.held l.s l.word l.start

abbrev pub decreases-loop-r : goal.decreases-loop-r
decreases-loop-r l = t64 - l.r
