-- `search::list_rows` meets its contract: the rows of the blocks that the walk has passed are listed, and k is how many
-- they are.
-- Assumes nothing.
use Rattle.std.proofs.Common.{◌≡◌, ◌-◌, length}
use Rattle.lists.specs.Tab.{over}
use Rattle.contents.specs.Contents.{count}
use Rattle.bodywise.proofs.Walking.{Walking}
use Rattle.search.proofs.Walks.{found_to}
use Rattle.search.proofs.list_rows.Given as goal

abbrev pub invariant-loop-body : goal.invariant-loop-body
invariant-loop-body l =
    Walking l.file l.body
    × (l.n ≡ count l.file)
    × (l.k ≡ length (found_to l.file l.low l.high l.body.number))
    × (l.rows ≡ over 0 (found_to l.file l.low l.high l.body.number) l.initial.rows)
    × (length l.block ≡ 1024)
    × (length l.found ≡ 1024)

abbrev pub decreases-loop-body : goal.decreases-loop-body
decreases-loop-body l = l.n - l.body.number
