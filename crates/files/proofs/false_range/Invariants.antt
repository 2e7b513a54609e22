-- `files::false_range` meets its contract: every block that the walk has passed has its true range.
-- Assumes nothing.
use Rattle.std.proofs.Common.{◌≡◌, ℕ, ◌-◌, ◌<◌, true, length}
use Rattle.contents.specs.Contents.{count}
use Rattle.files.specs.Files.{has_true_range}
use Rattle.bodywise.proofs.Walking.{Walking}
use Rattle.files.proofs.false_range.Given as goal

abbrev pub invariant-loop-body : goal.invariant-loop-body
invariant-loop-body l =
    Walking l.file l.body × (l.n ≡ count l.file) × ((k : ℕ) → k < l.body.number → has_true_range l.file k ≡ true) × (length l.block ≡ 1024)

abbrev pub decreases-loop-body : goal.decreases-loop-body
decreases-loop-body l = l.n - l.body.number
