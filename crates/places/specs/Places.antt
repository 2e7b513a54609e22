-- Where the values of a block stand (R15 to R17), where the next row starts (R19), and where the value transpose takes
-- each value from (R21). At element size t a block has t rows, below t, and LANES lanes, below LANES.
-- Assumes nothing.
use Rattle.std.specs.Prelude.{[], ◌∷◌, ℕ, ◌+◌, ◌-◌, ◌*◌, ◌/◌, ◌%◌, eqb, get_or}
use Rattle.lists.specs.Pick.{pick}
use Rattle.places.specs.Sizes.{lanes}

-- This is entry n of the order list, and 0 past its end.
unfoldable pub order : ℕ → ℕ
order n = get_or (0 ∷ 4 ∷ 2 ∷ 6 ∷ 1 ∷ 5 ∷ 3 ∷ 7 ∷ []) n 0

-- Row r of lane l of a block stands at this place.
unfoldable pub place : (r l : ℕ) → ℕ
place r l = order (r / 8) * 16 + (r % 8) * 128 + l

-- This is where row r starts, when the row before starts at q: 128 places on, and at every eighth row by the order
-- list. That it is so for each row is a law. Any two numbers give one: q is brought into a block, and r among 64 rows,
-- so that behind the last of them row 0 comes again.
unfoldable pub next_start_lem : (q r : ℕ) → ℕ
next_start_lem q r = pick (eqb (r % 8) 0) (place (r / 8 % 8 * 8) 0) (q % 1024 + 128)

-- This is the lane of a place, at element size t.
unfoldable pub lane : (t p : ℕ) → ℕ
lane t p = p % lanes t

-- This is its row. That a place below 1,024 has no other lane and row is a law: `place` takes the two back to the
-- place, and they take `place r l` of a row and a lane of the block back to l and r.
unfoldable pub row : (t p : ℕ) → ℕ
row t p = order ((p % 128 - lane t p) / 16) * 8 + p / 128

-- This is the source of place i below 1,024 under the value transpose.
unfoldable pub source : ℕ → ℕ
source i = (i % 16) * 64 + order ((i / 16) % 8) * 8 + i / 128

-- This is the place whose source is j, for j below 1,024. That there is no other such place is a law.
unfoldable pub target : ℕ → ℕ
target j = (j % 8) * 128 + order ((j / 8) % 8) * 16 + j / 64
