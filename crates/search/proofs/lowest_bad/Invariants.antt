-- `search::lowest_bad` meets its contract: every opened block that the walk has passed is as asked.
-- Assumes nothing.
use Rattle.std.proofs.Common.{◌≡◌, ℕ, ◌-◌, ◌<◌, true, length}
use Rattle.lists.specs.Pick.{pick}
use Rattle.contents.specs.Contents.{count}
use Rattle.bodywise.proofs.Walking.{Walking}
use Rattle.search.specs.InnerBlocks.{asked}
use Rattle.search.specs.Search.{opens}
use Rattle.search.proofs.lowest_bad.Given as goal

abbrev pub invariant-loop-body : goal.invariant-loop-body
invariant-loop-body l =
    Walking l.file l.body
    × (l.n ≡ count l.file)
    × ((k : ℕ) → k < l.body.number → pick (opens l.file l.low l.high k) (asked l.file l.ranges k) true ≡ true)
    × (length l.block ≡ 1024)

abbrev pub decreases-loop-body : goal.decreases-loop-body
decreases-loop-body l = l.n - l.body.number
