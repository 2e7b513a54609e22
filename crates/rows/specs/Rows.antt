-- The operations on a row (R20): LANES values that stand side by side in a block, as one value. Each has its plain
-- arithmetical meaning, place by place, for every row of elements, that is of numbers below 2^t. A shift or a width is
-- taken modulo t, so that every number has a meaning.
-- Assumes nothing.
use Rattle.std.specs.Prelude.{ℕ, ◌*◌, ◌/◌, ◌%◌, ◌^◌, List, length, bit_or, nat_le, slice_index}
use Rattle.lists.specs.Numbers.{plus, minus}
use Rattle.lists.specs.Pick.{pick}
use Rattle.lists.specs.Tab.{tab, over}
use Rattle.places.specs.Sizes.{lanes}

-- `splat` gives one value in every lane.
unfoldable pub splat_of : (t value : ℕ) → List ℕ
splat_of t value = tab (lanes t) (λ _. value)

-- `load` gives the first LANES values of the source, or LANES zeros where it has fewer.
unfoldable pub load_of : (t : ℕ) (source : List ℕ) → List ℕ
load_of t source = pick (nat_le (lanes t) (length source)) (tab (lanes t) (λ l. slice_index source l)) (splat_of t 0)

-- `store` leaves the list with the row written over its front, or as it was where the row does not fit.
unfoldable pub store_of : (out x : List ℕ) → List ℕ
store_of out x = pick (nat_le (length x) (length out)) (over 0 x out) out

-- `shr` gives each value divided by 2^(s mod t).
unfoldable pub shr_of : (t : ℕ) (x : List ℕ) (s : ℕ) → List ℕ
shr_of t x s = tab (lanes t) (λ l. slice_index x l / 2 ^ (s % t))

-- `or_shl` gives each value of x, with those bits set too that the value of y in the same lane, times 2^(s mod t), has
-- below 2^t.
unfoldable pub or_shl_of : (t : ℕ) (x y : List ℕ) (s : ℕ) → List ℕ
or_shl_of t x y s = tab (lanes t) (λ l. bit_or (slice_index x l) (slice_index y l * 2 ^ (s % t) % 2 ^ t))

-- `mask` gives each value modulo 2^(w mod t); so at width t it gives zeros.
unfoldable pub mask_of : (t : ℕ) (x : List ℕ) (w : ℕ) → List ℕ
mask_of t x w = tab (lanes t) (λ l. slice_index x l % 2 ^ (w % t))

-- `wrapping_add` gives the sums modulo 2^t.
unfoldable pub add_of : (t : ℕ) (x y : List ℕ) → List ℕ
add_of t x y = tab (lanes t) (λ l. plus t (slice_index x l) (slice_index y l))

-- `wrapping_sub` gives the differences modulo 2^t.
unfoldable pub sub_of : (t : ℕ) (x y : List ℕ) → List ℕ
sub_of t x y = tab (lanes t) (λ l. minus t (slice_index x l) (slice_index y l))
