-- Differences (R50, R51, R53) and frames (R55, R56), over the element size t and the width w. Sums and differences wrap
-- modulo 2^t, and that is meant (R49).
-- Assumes nothing.
use Rattle.std.specs.Prelude.{List, ℕ, zero, suc, ◌-◌, eqb, get_or}
use Rattle.lists.specs.Numbers.{digit, plus, minus}
use Rattle.lists.specs.Pick.{pick}
use Rattle.lists.specs.Tab.{tab}
use Rattle.places.specs.Places.{place, lane, row}
use Rattle.packing.specs.Packed.{words_number, pack_of, value_at}

-- Before place p stands the base of its lane where p is in row 0, and else the value of the lane's row before.
unfoldable pub before : (t : ℕ) (values base : List ℕ) (p : ℕ) → ℕ
before t values base p = pick (eqb (row t p) 0) (get_or base (lane t p) 0) (get_or values (place (row t p - 1) (lane t p)) 0)

-- Delta stores at each place its value minus what stands before it.
unfoldable pub delta_of : (t : ℕ) (values base : List ℕ) → List ℕ
delta_of t values base = tab 1024 (λ p. minus t (get_or values p 0) (before t values base p))

-- This is the sum along a lane whose numbers by row are f and whose base is b: row 0 gives its number plus the base,
-- each later row its number plus the result of the row before.
unfoldable pub summed : (t : ℕ) (f : ℕ → ℕ) (b r : ℕ) → ℕ
summed t f b zero = plus t (f 0) b
summed t f b (suc r) = plus t (f (suc r)) (summed t f b r)

-- Undelta gives each place the sum along its lane up to its row, from the base of that lane on.
unfoldable pub undelta_of : (t : ℕ) (numbers base : List ℕ) → List ℕ
undelta_of t numbers base =
    tab 1024 (λ p. summed t (λ r. get_or numbers (place r (lane t p)) 0) (get_or base (lane t p) 0) (row t p))

-- `undelta_pack` gives the same sum, of the digits that the lane's packed number holds.
unfoldable pub undelta_pack_of : (t w : ℕ) (packed base : List ℕ) → List ℕ
undelta_pack_of t w packed base =
    tab 1024 (λ p. summed t (digit w (words_number t w packed (lane t p))) (get_or base (lane t p) 0) (row t p))

-- A frame is each value minus the reference.
unfoldable pub frame_of : (t : ℕ) (values : List ℕ) (reference : ℕ) → List ℕ
frame_of t values reference = tab 1024 (λ p. minus t (get_or values p 0) reference)

-- `for_pack` packs the frame.
unfoldable pub for_pack_of : (t w : ℕ) (values : List ℕ) (reference : ℕ) → List ℕ
for_pack_of t w values reference = pack_of t w (frame_of t values reference)

-- `unfor_pack` adds the reference after unpacking.
unfoldable pub unfor_pack_of : (t w : ℕ) (packed : List ℕ) (reference : ℕ) → List ℕ
unfor_pack_of t w packed reference = tab 1024 (λ p. plus t (value_at t w packed p) reference)

-- Two lists of n numbers are summed place by place, modulo 2^t. The additive laws (R146) sum blocks and bases so.
abbrev pub sum_of : (t n : ℕ) (x y : List ℕ) → List ℕ
sum_of t n x y = tab n (λ i. plus t (get_or x i 0) (get_or y i 0))
