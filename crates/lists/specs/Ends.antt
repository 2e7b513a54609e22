-- The smallest and the largest number of a list: by a rule, and what they are.
-- Assumes nothing.
use Rattle.std.specs.Prelude.{List, [], ◌∷◌, ℕ, ◌-◌, ◌^◌, ◌≤◌, ◌<◌, min, max, length, get_or}
use Rattle.lists.specs.Members.{Stands}

-- This is the highest number of the list, and 0 where the list is empty.
unfoldable pub highest_of : List ℕ → ℕ
highest_of [] = 0
highest_of (x ∷ xs) = max x (highest_of xs)

-- This is the lowest number of a list of numbers of 64 bits, and the largest of them where the list is empty.
unfoldable pub lowest_of : List ℕ → ℕ
lowest_of [] = 2 ^ 64 - 1
lowest_of (x ∷ xs) = min x (lowest_of xs)

-- Two numbers span a list: every number of it is between them, and both stand in it. That the lowest and the highest
-- do so, of a list of numbers of 64 bits that is not empty, and no other two, is a law.
pub record Spans (low high : ℕ) (xs : List ℕ) : Type 0 where
  pub between : (i : ℕ) → i < length xs → (low ≤ get_or xs i 0) × (get_or xs i 0 ≤ high)
  pub lowest : Stands low xs
  pub highest : Stands high xs
