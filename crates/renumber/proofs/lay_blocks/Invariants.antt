-- `renumber::lay_blocks` meets its contract: after each body of the walk the output holds the entries and the new bodies
-- up to there.
-- Assumes nothing.
use mathlib.Core.Path.{◌≡◌}
use Prim.Native.Nat.{◌+◌, ◌-◌}
use lib.ListN.{length}
use Rattle.contents.specs.Contents.{count, contents_size}
use Rattle.bodywise.proofs.Walking.{Walking}
use Rattle.writer.specs.InnerKept.{Rooms}
use Rattle.writer.specs.Writer.{bodies_for}
use Rattle.writer.proofs.Laying.{laid_to}
use Rattle.renumber.specs.Renumber.{new_rows}
use Rattle.renumber.proofs.lay_blocks.Given as goal

abbrev pub invariant-loop-body : goal.invariant-loop-body
invariant-loop-body l =
    Walking l.file l.body
    × (l.n ≡ count l.file)
    × (l.at ≡ contents_size 2 l.n + length (bodies_for (new_rows l.old l.new l.file) l.body.number))
    × (l.output ≡ laid_to (new_rows l.old l.new l.file) l.n l.body.number l.initial.output)
    × (length l.block ≡ 1024)
    × Rooms l.plain l.frame l.rest

abbrev pub decreases-loop-body : goal.decreases-loop-body
decreases-loop-body l = l.n - l.body.number
