-- In how many packed words a value stands, for one place (R39, R41), and for a list of places in all (R43).
-- Assumes nothing.
use Rattle.std.specs.Prelude.{List, [], ◌∷◌, ◌≡◌, ℕ, ◌+◌, ◌*◌, ◌/◌, ◌%◌, ◌<◌, min, eqb, leb, ltb, length, get_or}
use Rattle.lists.specs.Pick.{pick, both}
use Rattle.lists.specs.Tab.{tab}
use Rattle.places.specs.Places.{row}
use Rattle.places.specs.Sizes.{largest_u64}

-- At a width of at most t the bits of row r stand in this many packed words of its lane: in none at width 0, in one
-- where they end within the word in which they begin, and else in two.
unfoldable pub words_read : (t w r : ℕ) → ℕ
words_read t w r = pick (eqb w 0) 0 (pick (leb (r * w % t + w) t) 1 2)

-- The value at place p stands in as many words as the bits of its row do.
unfoldable pub count_at : (t w p : ℕ) → ℕ
count_at t w p = words_read t w (row t p)

-- Word k of a lane holds a bit of its row r: bit b of row r is bit r · w + b of the lane. That there are as many such
-- words as the count says is a law.
pub record BitIn (t w r k : ℕ) : Type 0 where
  pub bit : ℕ
  pub within : bit < w
  pub stands : (r * w + bit) / t ≡ k

-- The largest u64 stands for a count where there is none. A count is 0, 1 or 2, so it is never this number; a list's
-- sum may be held at it, so 0 stands for the sum of a refused list.
abbrev pub no_count : ℕ
no_count = largest_u64

-- There is a count where the width is at most t and the place is below 1,024; else the largest u64 stands for it.
unfoldable pub words_at : (t w p : ℕ) → ℕ
words_at t w p = pick (both (leb w t) (ltb p 1024)) (count_at t w p) no_count

-- These are the counts of a list of indices, one for each.
unfoldable pub counts_of_lem : (t w : ℕ) (indices : List ℕ) → List ℕ
counts_of_lem t w indices = tab (length indices) (λ i. count_at t w (get_or indices i 0))

-- This is the sum of a list of numbers.
unfoldable pub sum_of : List ℕ → ℕ
sum_of [] = 0
sum_of (x ∷ xs) = x + sum_of xs

-- What is given for a list is never above the largest u64.
abbrev pub sum_cap : ℕ
sum_cap = largest_u64

-- A sum that would pass it is held there.
abbrev pub held : ℕ → ℕ
held n = min n sum_cap

-- The values at a list of indices stand in this many words, the sum of their counts, held there.
unfoldable pub list_words : (t w : ℕ) (indices : List ℕ) → ℕ
list_words t w indices = held (sum_of (counts_of_lem t w indices))
