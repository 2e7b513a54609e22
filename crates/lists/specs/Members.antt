-- A number that stands in a list, and a list that rises, in plain arithmetic.
-- Assumes nothing.
use Rattle.std.specs.Prelude.{List, ◌≡◌, ℕ, ◌<◌, length, get_or}

-- A number stands in a list at a place.
abbrev pub Stands : (n : ℕ) (xs : List ℕ) → Type 0
Stands n xs = (i : ℕ) × (i < length xs) × (get_or xs i 0 ≡ n)

-- The numbers of a list rise, so each stands there once.
abbrev pub Rising : (xs : List ℕ) → Type 0
Rising xs = (i j : ℕ) → i < j → j < length xs → get_or xs i 0 < get_or xs j 0
