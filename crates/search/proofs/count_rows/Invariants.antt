-- `search::count_rows` meets its contract: the sum is of the blocks that the walk has passed.
-- Assumes nothing.
use Rattle.std.proofs.Common.{◌≡◌, ◌-◌, length}
use Rattle.contents.specs.Contents.{count}
use Rattle.bodywise.proofs.Walking.{Walking}
use Rattle.search.proofs.Walks.{found_to}
use Rattle.search.proofs.count_rows.Given as goal

abbrev pub invariant-loop-body : goal.invariant-loop-body
invariant-loop-body l =
    Walking l.file l.body × (l.n ≡ count l.file) × (l.sum ≡ length (found_to l.file l.low l.high l.body.number))

abbrev pub decreases-loop-body : goal.decreases-loop-body
decreases-loop-body l = l.n - l.body.number
