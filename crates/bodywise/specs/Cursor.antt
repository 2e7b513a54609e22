-- The walk over the bodies of a file, in their order: a body with its number, where it begins, and its entry, and the
-- one behind it. In a file whose contents are right body i of this walk begins where body i of the file begins, and has
-- its entry: laws say so.
--
-- `front` is the front of the file, which has the contents.
-- Assumes nothing.
use Rattle.std.specs.Prelude.{List, ℕ, zero, suc, ◌+◌, min}
use Rattle.places.specs.Sizes.{largest_u64}
use Rattle.contents.specs.Contents.{edition_or, count_or, contents_size, entry_or}
use Rattle.bodywise.specs.declared.Body.{Body}

-- Body `number`, which begins at `at`, has this entry.
abbrev pub body_at : (front : List ℕ) (number at : ℕ) → Body
body_at front number at = record { number = number; at = at; entry = entry_or front number }

-- The first body begins behind the contents.
unfoldable pub first_body : (front : List ℕ) → Body
first_body front = body_at front 0 (contents_size (edition_or front) (count_or front))

-- A sum that is no number of 64 bits counts as the largest that is one.
abbrev pub sum_of : (a b : ℕ) → ℕ
sum_of a b = min (a + b) largest_u64

-- The next body begins where a body ends.
unfoldable pub next_body : (front : List ℕ) (b : Body) → Body
next_body front b = body_at front (sum_of b.number 1) (sum_of b.at b.entry.length)

-- This is where i steps behind the first body lead.
unfoldable pub walked : (front : List ℕ) (i : ℕ) → Body
walked front zero = first_body front
walked front (suc i) = next_body front (walked front i)
