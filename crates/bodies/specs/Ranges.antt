-- The smallest and the largest value of a block (R87, R92).
-- Assumes nothing.
use Rattle.std.specs.Prelude.{Bool, List, ℕ, eqb}
use Rattle.lists.specs.Pick.{both}
use Rattle.lists.specs.Ends.{lowest_of, highest_of}
use Rattle.contents.specs.declared.Range.{Range}

-- The true range of a block is from its lowest number to its highest.
abbrev pub true_range : (block : List ℕ) → Range
true_range block = record { smallest = lowest_of block; largest = highest_of block }

-- This test says that a range is the true one of a block.
abbrev pub is_range : (r : Range) (block : List ℕ) → Bool
is_range r block = both (eqb r.smallest (lowest_of block)) (eqb r.largest (highest_of block))
