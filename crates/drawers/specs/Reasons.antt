-- When each number is given to a call on a drawer (R68), said a second time: in plain arithmetic, in the order of the
-- rule, so that the lowest number comes first. It guards the tests in Drawers: that a call on a drawer gets an answer
-- exactly when it has the reason for it here is a theorem.
-- Assumes nothing.
use Rattle.std.specs.Prelude.{List, ◌⊎◌, ◌≢◌, ◌≡◌, ℕ, ◌*◌, ◌≤◌, ◌<◌, length}
use Rattle.places.specs.declared.Answer.{Answer}
use Rattle.places.specs.declared.Answer.TheVariants.{Done, Width, Block, Packed}
use Rattle.places.specs.Sizes.{lanes}

-- The width is at most t, there are at most 256 blocks, and both buffers are as long as so many blocks.
pub record Fits (t w m : ℕ) (values packed : List ℕ) : Type 0 where
  pub narrow : w ≤ t
  pub few : m ≤ 256
  pub whole : length values ≡ m * 1024
  pub full : length packed ≡ m * (lanes t * w)

-- A call on a drawer has this reason for its answer.
pub data DrawerReason (t w m : ℕ) (values packed : List ℕ) : Answer → Type 0 where
  -- 1: the width is above t.
  too_wide : t < w → DrawerReason t w m values packed Width
  -- 2: there are more than 256 blocks, or not 1,024 values for each.
  no_blocks : w ≤ t → (256 < m) ⊎ (length values ≢ m * 1024) → DrawerReason t w m values packed Block
  -- 3: the packed words are not LANES · w for each block.
  no_packed : w ≤ t → m ≤ 256 → length values ≡ m * 1024 → length packed ≢ m * (lanes t * w) → DrawerReason t w m values packed Packed
  -- 0: nothing of that is the case.
  fits : Fits t w m values packed → DrawerReason t w m values packed Done
