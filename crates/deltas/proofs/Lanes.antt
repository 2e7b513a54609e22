-- The laws of sums and differences modulo 2^t, and of a lane: what stands before a row, what delta stores there and
-- what undelta sums up to there, over the element size t.
-- Assumes nothing.
use mathlib.Core.Path.{◌≡◌, refl, sym, ap, ap₂, ◌∙◌, subst}
use mathlib.Core.Bool.{Bool, true, false}
use mathlib.Core.List.{List}
use Prim.Native.Nat.{ℕ, zero, suc, ◌+◌, ◌-◌, ◌*◌, ◌%◌, ◌^◌, ◌≤◌, ◌<◌}
use native.Mathlib.Nat.{zero-add, mod-lt, mod-eq_of_lt, mod-add-mod, add-mod, add-mod_right, le_refl, lt_of_lt_of_le}
use native.Mathlib.Numerals.{add-one}
use native.Mathlib.Omega.{arith}
use lib.Dec.{eqb}
use lib.ListN.{length, get_or}
use lib.Pow.{pow_pos, pow_mono}
use lib.Seq.{ext_get_or}
use borrow.Author.Tests.{ne_eqb}
use Rattle.lists.specs.Pick.{pick}
use Rattle.lists.specs.Tab.{tab}
use Rattle.lists.specs.Numbers.{digit, plus, minus, Elements}
use Rattle.lists.proofs.Tabs.{get_d_tab, length-tab, tab_ext}
use Rattle.lists.proofs.Digits.{elements-of}
use Rattle.places.specs.Places.{place, lane, row}
use Rattle.places.specs.Sizes.{Size, lanes}
use Rattle.places.proofs.Places.{size_some, place-row-lane, lane-lt, row_lt, lane_place, row-place, place-lt}
use Rattle.places.proofs.Wraps.{sub_wraps}
use Rattle.packing.specs.Packed.{words_number, unpack_of}
use Rattle.packing.proofs.Rounds.{length-pack, length-unpack, unpack-at, unpack-fits, value-place}
use Rattle.deltas.specs.Deltas.{before, delta_of, summed, undelta_of, frame_of, for_pack_of}

-- ---- sums and differences modulo 2^t

module _ (t : ℕ) where
  -- A sum is a number of t bits, and so is a difference.
  pub plus-lt : (a b : ℕ) → plus t a b < 2 ^ t
  unfolding plus
  plus-lt a b = mod-lt (a + b) (pow_pos t)

  pub minus-lt : (a b : ℕ) → minus t a b < 2 ^ t
  unfolding minus
  minus-lt a b = mod-lt (a + (2 ^ t - b)) (pow_pos t)

  -- A number of t bits, added to zero, stays what it is.
  pub plus-zero : (b : ℕ) → b < 2 ^ t → plus t 0 b ≡ b
  unfolding plus
  plus-zero b h = rw zero-add (mod-eq_of_lt h)

  -- what is a number of t bits and 2^t more is that number
  once_round : (a m : ℕ) → a < 2 ^ t → m ≡ a + 2 ^ t → m % 2 ^ t ≡ a
  once_round a m h e = ap (λ k. k % 2 ^ t) e ∙ add-mod_right a (2 ^ t) ∙ mod-eq_of_lt h

  -- Adding what was subtracted gives the number back,
  pub plus-minus : (a b : ℕ) → a < 2 ^ t → b < 2 ^ t → plus t (minus t a b) b ≡ a
  unfolding plus minus
  plus-minus a b ha hb = mod-add-mod (a + (2 ^ t - b)) (2 ^ t) b ∙ once_round a _ ha (omega arith)

  -- and so does subtracting what was added.
  pub minus_plus : (a b : ℕ) → a < 2 ^ t → b < 2 ^ t → minus t (plus t a b) b ≡ a
  unfolding plus minus
  minus_plus a b ha hb = mod-add-mod (a + b) (2 ^ t) (2 ^ t - b) ∙ once_round a _ ha (omega arith)

  -- So only the difference, added to b, gives a.
  pub minus_only : (a b r : ℕ) → b < 2 ^ t → r < 2 ^ t → plus t r b ≡ a → r ≡ minus t a b
  unfolding plus minus
  minus_only a b r hb hr e = sub_wraps (2 ^ t) a b r hb hr e

  -- Sums are additive: the sum of two sums is the sum of the sums of their parts.
  pub plus_additive : (a a' b b' : ℕ) → plus t (plus t a a') (plus t b b') ≡ plus t (plus t a b) (plus t a' b')
  unfolding plus
  plus_additive a a' b b' =
      sym (add-mod (a + a') (b + b') (2 ^ t)) ∙ ap (λ k. k % 2 ^ t) (omega arith) ∙ add-mod (a + b) (a' + b') (2 ^ t)

  -- So are differences: the difference of two sums is the sum of the differences of their parts.
  pub minus_additive : (a a' b b' : ℕ) → a < 2 ^ t → a' < 2 ^ t → b < 2 ^ t → b' < 2 ^ t
      → minus t (plus t a a') (plus t b b') ≡ plus t (minus t a b) (minus t a' b')
  minus_additive a a' b b' ha ha' hb hb' =
      sym (minus_only (plus t a a') (plus t b b') (plus t (minus t a b) (minus t a' b')) (plus-lt b b') (plus-lt (minus t a b) (minus t a' b'))
      (plus_additive (minus t a b) (minus t a' b') b b' ∙ ap₂ (plus t) (plus-minus a b ha hb) (plus-minus a' b' ha' hb')))

-- ---- the sum along a lane

module _ (t : ℕ) (f : ℕ → ℕ) (b : ℕ) where
  -- Row 0 gives its number plus the base,
  pub summed-row-first : summed t f b 0 ≡ plus t (f 0) b
  unfolding summed
  summed-row-first = refl

  -- and each later row its number plus the result of the row before.
  pub summed-row-next : (r : ℕ) → summed t f b (r + 1) ≡ plus t (f (r + 1)) (summed t f b r)
  unfolding summed
  summed-row-next r = rw add-one

  -- Each result is a number of t bits.
  pub summed-lt : (r : ℕ) → summed t f b r < 2 ^ t
  unfolding summed
  summed-lt zero = plus-lt t (f 0) b
  summed-lt (suc r) = plus-lt t (f (suc r)) (summed t f b r)

-- Where all numbers are zero the base stays.
pub summed-zero : (t : ℕ) (f : ℕ → ℕ) → ((r : ℕ) → f r ≡ 0) → (b : ℕ) → b < 2 ^ t → (r : ℕ) → summed t f b r ≡ b
unfolding summed
summed-zero t f none b h zero = ap (λ n. plus t n b) (none 0) ∙ plus-zero t b h
summed-zero t f none b h (suc r) = ap₂ (plus t) (none (suc r)) (summed-zero t f none b h r) ∙ plus-zero t b h

-- Numbers that agree up to row r give one result there.
pub summed_ext : (t : ℕ) (f g : ℕ → ℕ) (b r : ℕ) → ((k : ℕ) → k ≤ r → f k ≡ g k) → summed t f b r ≡ summed t g b r
unfolding summed
summed_ext t f g b zero same = ap (λ n. plus t n b) (same 0 (le_refl 0))
summed_ext t f g b (suc r) same = ap₂ (plus t) (same (suc r) (le_refl (suc r))) (summed_ext t f g b r (λ k h. same k (omega arith)))

-- Sums along a lane are additive.
pub summed_additive : (t : ℕ) (f g : ℕ → ℕ) (b c r : ℕ)
    → summed t (λ k. plus t (f k) (g k)) (plus t b c) r ≡ plus t (summed t f b r) (summed t g c r)
unfolding summed
summed_additive t f g b c zero = plus_additive t (f 0) (g 0) b c
summed_additive t f g b c (suc r) =
    ap (plus t (plus t (f (suc r)) (g (suc r)))) (summed_additive t f g b c r)
    ∙ plus_additive t (f (suc r)) (g (suc r)) (summed t f b r) (summed t g c r)

-- ---- lists of numbers of t bits

-- An unpacked block holds numbers of t bits: its values have w bits, and w is at most t.
pub elements-unpack : (t w : ℕ) → w ≤ t → (packed : List ℕ) → Elements t (unpack_of t w packed)
elements-unpack t w hw packed =
    elements-of t 1024 (unpack_of t w packed) (length-unpack t w packed) (λ p h. lt_of_lt_of_le (unpack-fits t w packed p h) (pow_mono hw))

-- The blocks that delta and undelta give have 1,024 numbers.
module _ (t : ℕ) (v b : List ℕ) where
  pub length-delta : length (delta_of t v b) ≡ 1024
  unfolding delta_of
  length-delta = length-tab 1024 _

  pub length-undelta : length (undelta_of t v b) ≡ 1024
  unfolding undelta_of
  length-undelta = length-tab 1024 _

-- A packed frame has w words for each lane.
pub length_for_pack : (t w : ℕ) (v : List ℕ) (reference : ℕ) → length (for_pack_of t w v reference) ≡ lanes t * w
unfolding for_pack_of
length_for_pack t w v reference = length-pack t w (frame_of t v reference)

-- ---- the rows of a lane

-- What holds at each row of each lane holds at each place.
pub by_rows : {t : ℕ} → Size t → (P : ℕ → Type 0) → ((r l : ℕ) → r < t → l < lanes t → P (place r l)) → (p : ℕ) → p < 1024 → P p
by_rows {t} s P f p h = subst P (place-row-lane s p h) (f (row t p) (lane t p) (row_lt s p h) (lane-lt s p h))

-- So two blocks are one where their rows agree in each lane.
pub rows_ext : {t : ℕ} → Size t → (x y : List ℕ) → length x ≡ 1024 → length y ≡ 1024
    → ((r l : ℕ) → r < t → l < lanes t → get_or x (place r l) 0 ≡ get_or y (place r l) 0) → x ≡ y
rows_ext s x y ex ey same =
    ext_get_or 0 x y (ex ∙ sym ey) (λ p h. by_rows s (λ p. get_or x p 0 ≡ get_or y p 0) same p (omega arith))

-- What is summed up to a place, by its lane and row. The rules of undelta and undelta_pack both have this form.
pub summed-place : {t : ℕ} → Size t → (f : ℕ → ℕ → ℕ) (b : List ℕ) (r l : ℕ) → r < t → l < lanes t
    → summed t (f (lane t (place r l))) (get_or b (lane t (place r l)) 0) (row t (place r l)) ≡ summed t (f l) (get_or b l 0) r
summed-place s f b r l hr hl = rw (lane_place s r l hr hl, row-place s r l hr hl)

module _ {t : ℕ} (s : Size t) (v b : List ℕ) (l : ℕ) (hl : l < lanes t) where
  -- what stands before row r
  before-row : (r : ℕ) → r < t → before t v b (place r l) ≡ pick (eqb r 0) (get_or b l 0) (get_or v (place (r - 1) l) 0)
  unfolding before
  before-row r hr = rw (lane_place s r l hr hl, row-place s r l hr hl)

  -- Before row 0 stands the base of the lane,
  pub before-first : before t v b (place 0 l) ≡ get_or b l 0
  before-first = before-row 0 (size_some s)

  -- and before each later row the value of the row before.
  pub before-next : (r : ℕ) → r + 1 < t → before t v b (place (r + 1) l) ≡ get_or v (place r l) 0
  before-next r h =
      let back : r + 1 - 1 ≡ r = omega arith in
      before-row (r + 1) h ∙ simp (ne_eqb (r + 1) 0 (λ e. omega arith), back)

  -- delta stores at row r its value minus what stands before it:
  pub delta-at : (r : ℕ) → r < t → get_or (delta_of t v b) (place r l) 0 ≡ minus t (get_or v (place r l) 0) (before t v b (place r l))
  unfolding delta_of
  delta-at r hr = get_d_tab 1024 _ (place r l) 0 (place-lt s r l hr hl)

  -- at row 0 its value minus the base,
  pub delta-first : get_or (delta_of t v b) (place 0 l) 0 ≡ minus t (get_or v (place 0 l) 0) (get_or b l 0)
  delta-first = delta-at 0 (size_some s) ∙ ap (minus t (get_or v (place 0 l) 0)) before-first

  -- and at each later row its value minus the value of the row before.
  pub delta-next : (r : ℕ) → r + 1 < t → get_or (delta_of t v b) (place (r + 1) l) 0 ≡ minus t (get_or v (place (r + 1) l) 0) (get_or v (place r l) 0)
  delta-next r h = delta-at (r + 1) h ∙ ap (minus t (get_or v (place (r + 1) l) 0)) (before-next r h)

  -- undelta gives at row r the sum of the lane's numbers up to there.
  pub undelta-at : (r : ℕ) → r < t → get_or (undelta_of t v b) (place r l) 0 ≡ summed t (λ k. get_or v (place k l) 0) (get_or b l 0) r
  unfolding undelta_of
  undelta-at r hr =
      get_d_tab 1024 _ (place r l) 0 (place-lt s r l hr hl) ∙ summed-place s (λ l k. get_or v (place k l) 0) b r l hr hl

-- The unpacked block holds at row r of lane l the digit that the lane's packed number holds there.
pub unpack-row : {t : ℕ} → Size t → (w : ℕ) (packed : List ℕ) (l r : ℕ) → l < lanes t → r < t
    → get_or (unpack_of t w packed) (place r l) 0 ≡ digit w (words_number t w packed l) r
unpack-row {t} s w packed l r hl hr = unpack-at t w packed (place r l) (place-lt s r l hr hl) ∙ value-place s w packed l r hl hr

-- ---- a lane there and back

module _ {t : ℕ} (s : Size t) (v b : List ℕ) (fv : Elements t v) (fb : Elements t b) (l : ℕ) (hl : l < lanes t) where
  -- The differences of a lane sum up to its values,
  pub summed-delta : (r : ℕ) → r < t → summed t (λ k. get_or (delta_of t v b) (place k l) 0) (get_or b l 0) r ≡ get_or v (place r l) 0
  unfolding summed
  summed-delta zero hr =
      ap (λ n. plus t n (get_or b l 0)) (delta-first s v b l hl) ∙ plus-minus t (get_or v (place 0 l) 0) (get_or b l 0) (fv (place 0 l)) (fb l)
  summed-delta (suc r) hr =
      let now : get_or (delta_of t v b) (place (suc r) l) 0 ≡ minus t (get_or v (place (suc r) l) 0) (get_or v (place r l) 0) =
      rw (← add-one r) (delta-next s v b l hl r (omega arith)) in
      ap₂ (plus t) now (summed-delta r (omega arith))
      ∙ plus-minus t (get_or v (place (suc r) l) 0) (get_or v (place r l) 0) (fv (place (suc r) l)) (fv (place r l))

  -- and the sums of a lane differ by its numbers.
  pub delta-summed : (r : ℕ) → r < t → get_or (delta_of t (undelta_of t v b) b) (place r l) 0 ≡ get_or v (place r l) 0
  unfolding summed
  delta-summed zero hr =
      delta-first s (undelta_of t v b) b l hl
      ∙ ap (λ n. minus t n (get_or b l 0)) (undelta-at s v b l hl zero hr)
      ∙ minus_plus t (get_or v (place 0 l) 0) (get_or b l 0) (fv (place 0 l)) (fb l)
  delta-summed (suc r) hr =
      let f : ℕ → ℕ = λ k. get_or v (place k l) 0 in
      rw (← add-one r) (delta-next s (undelta_of t v b) b l hl r (omega arith))
      ∙ ap₂ (minus t) (undelta-at s v b l hl (suc r) hr) (undelta-at s v b l hl r (omega arith))
      ∙ minus_plus t (f (suc r)) (summed t f (get_or b l 0) r) (fv (place (suc r) l)) (summed-lt t f (get_or b l 0) r)

-- ---- a block and a base that are sums, place by place

pick-lt : (c : Bool) (a b n : ℕ) → a < n → b < n → pick c a b < n
pick-lt true a b n ha hb = ha
pick-lt false a b n ha hb = hb

pick-plus : (t : ℕ) (c : Bool) (a a' b b' : ℕ) → pick c (plus t a a') (plus t b b') ≡ plus t (pick c a b) (pick c a' b')
pick-plus t true a a' b b' = refl
pick-plus t false a a' b b' = refl

-- What stands before a place is a number of t bits.
pub before-lt : (t : ℕ) (v b : List ℕ) → Elements t v → Elements t b → (p : ℕ) → before t v b p < 2 ^ t
unfolding before
before-lt t v b fv fb p =
    pick-lt (eqb (row t p) 0) (get_or b (lane t p) 0) (get_or v (place (row t p - 1) (lane t p)) 0) (2 ^ t)
    (fb (lane t p)) (fv (place (row t p - 1) (lane t p)))

module _ {t : ℕ} (s : Size t) (x v v' y b b' : List ℕ)
    (block : (p : ℕ) → p < 1024 → get_or x p 0 ≡ plus t (get_or v p 0) (get_or v' p 0))
    (base : (l : ℕ) → l < lanes t → get_or y l 0 ≡ plus t (get_or b l 0) (get_or b' l 0))
    (p : ℕ) (h : p < 1024) where
  -- a row of the lane of p, no further down than p
  above : (r : ℕ) → r ≤ row t p → get_or x (place r (lane t p)) 0 ≡ plus t (get_or v (place r (lane t p)) 0) (get_or v' (place r (lane t p)) 0)
  above r hr = block (place r (lane t p)) (place-lt s r (lane t p) (omega (arith, row_lt s p h)) (lane-lt s p h))

  -- What stands before a place is the sum of what stands before it in the parts,
  pub before_sum : before t x y p ≡ plus t (before t v b p) (before t v' b' p)
  unfolding before
  before_sum =
      let q : ℕ = place (row t p - 1) (lane t p) in
      ap₂ (pick (eqb (row t p) 0)) (base (lane t p) (lane-lt s p h)) (above (row t p - 1) (omega arith))
      ∙ pick-plus t (eqb (row t p) 0) (get_or b (lane t p) 0) (get_or b' (lane t p) 0) (get_or v q 0) (get_or v' q 0)

  -- and so is what is summed up to it.
  pub summed_sum : summed t (λ r. get_or x (place r (lane t p)) 0) (get_or y (lane t p) 0) (row t p)
      ≡ plus t (summed t (λ r. get_or v (place r (lane t p)) 0) (get_or b (lane t p) 0) (row t p))
      (summed t (λ r. get_or v' (place r (lane t p)) 0) (get_or b' (lane t p) 0) (row t p))
  summed_sum =
      let f : ℕ → ℕ = λ r. get_or v (place r (lane t p)) 0 in
      let g : ℕ → ℕ = λ r. get_or v' (place r (lane t p)) 0 in
      summed_ext t (λ r. get_or x (place r (lane t p)) 0) (λ r. plus t (f r) (g r)) (get_or y (lane t p) 0) (row t p) above
      ∙ ap (λ c. summed t (λ r. plus t (f r) (g r)) c (row t p)) (base (lane t p) (lane-lt s p h))
      ∙ summed_additive t f g (get_or b (lane t p) 0) (get_or b' (lane t p) 0) (row t p)

-- ---- a row of lanes at a time

-- A walk that holds what stands before row r in each lane writes the differences that delta stores there.
pub delta-row : {t : ℕ} (s : Size t) (r : ℕ) → r < t → (v b : List ℕ) (prev : ℕ → ℕ) → ((l : ℕ) → l < lanes t → prev l ≡ before t v b (place r l))
    → tab (lanes t) (λ l. minus t (get_or v (place r l) 0) (prev l)) ≡ tab (lanes t) (λ l. minus t (get_or v (place r l) 0) (before t v b (place r l)))
delta-row {t} s r h v b prev same = tab_ext (lanes t) _ _ 0 (λ l hl. ap (minus t (get_or v (place r l) 0)) (same l hl))

-- At row 0 it holds the base,
pub delta-row-first : {t : ℕ} (s : Size t) (v b : List ℕ)
    → tab (lanes t) (λ l. minus t (get_or v (place 0 l) 0) (get_or b l 0)) ≡ tab (lanes t) (λ l. minus t (get_or v (place 0 l) 0) (before t v b (place 0 l)))
delta-row-first s v b = delta-row s 0 (size_some s) v b _ (λ l hl. sym (before-first s v b l hl))

-- and at each later row the row before.
pub delta-row-next : {t : ℕ} (s : Size t) (v b : List ℕ) (r : ℕ) → r + 1 < t
    → tab (lanes t) (λ l. minus t (get_or v (place (r + 1) l) 0) (get_or v (place r l) 0))
    ≡ tab (lanes t) (λ l. minus t (get_or v (place (r + 1) l) 0) (before t v b (place (r + 1) l)))
delta-row-next s v b r h = delta-row s (r + 1) h v b _ (λ l hl. sym (before-next s v b l hl r h))
