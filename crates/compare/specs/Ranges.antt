-- Whether two files say the same range of a block (R126).
-- Assumes nothing.
use Rattle.std.specs.Prelude.{Bool, List, ℕ, eqb}
use Rattle.lists.specs.Pick.{both}
use Rattle.contents.specs.Contents.{edition_or, range_or}

-- This test says that two files have one edition and say one range of block i. `left` and `right` are their fronts.
unfoldable pub same_range : (left right : List ℕ) (i : ℕ) → Bool
same_range left right i =
    both (eqb (edition_or left) (edition_or right))
    (both (eqb (range_or left i).smallest (range_or right i).smallest) (eqb (range_or left i).largest (range_or right i).largest))
