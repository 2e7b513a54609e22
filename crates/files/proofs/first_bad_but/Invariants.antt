-- `files::first_bad_but` meets its contract: every block that the walk has passed is block b or has its run indices in
-- range.
-- Assumes nothing.
use Rattle.std.proofs.Common.{◌≡◌, ℕ, ◌-◌, ◌<◌, true, eqb}
use Rattle.lists.specs.Pick.{either}
use Rattle.contents.specs.Contents.{count}
use Rattle.bodywise.proofs.Walking.{Walking}
use Rattle.files.proofs.Files.{good_in}
use Rattle.files.proofs.first_bad_but.Given as goal

abbrev pub invariant-loop-body : goal.invariant-loop-body
invariant-loop-body l =
    Walking l.file l.body × (l.n ≡ count l.file) × ((k : ℕ) → k < l.body.number → either (eqb k l.b) (good_in l.file k) ≡ true)

abbrev pub decreases-loop-body : goal.decreases-loop-body
decreases-loop-body l = l.n - l.body.number
