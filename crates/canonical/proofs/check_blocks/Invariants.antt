-- `canonical::check_blocks` meets its contract: every block that the walk has passed has its true range, and the lowest
-- of them that is not the writer's is known.
-- Assumes nothing.
use mathlib.Core.Bool.{true}
use mathlib.Core.Path.{◌≡◌}
use Prim.Native.Nat.{ℕ, ◌-◌, ◌<◌}
use lib.ListN.{length}
use Rattle.contents.specs.Contents.{count}
use Rattle.bodywise.proofs.Walking.{Walking}
use Rattle.files.specs.Files.{has_true_range}
use Rattle.canonical.proofs.Calls.{Lowest}
use Rattle.canonical.proofs.check_blocks.Given as goal

abbrev pub invariant-loop-body : goal.invariant-loop-body
invariant-loop-body l =
    Walking l.file l.body
    × (l.n ≡ count l.file)
    × ((k : ℕ) → k < l.body.number → has_true_range l.file k ≡ true)
    × (length l.block ≡ 1024)
    × Lowest l.file l.n l.lowest l.body.number

abbrev pub decreases-loop-body : goal.decreases-loop-body
decreases-loop-body l = l.n - l.body.number
