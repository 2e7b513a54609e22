-- The laws of packing and unpacking (R30 to R35), over the element size t and the width w: the one sum that the packed
-- words satisfy and that no other words satisfy, what comes back from a round in either direction, and the two widths
-- at the ends.
-- Assumes nothing.
use mathlib.Core.Path.{◌≡◌, refl, sym, ap, ◌∙◌, subst}
use mathlib.Core.Logic.{◌↔◌}
use mathlib.Core.List.{List, [], ◌∷◌}
use Prim.Native.Nat.{ℕ, ◌+◌, ◌*◌, ◌/◌, ◌%◌, ◌^◌, ◌<◌}
use native.Mathlib.Nat.{mul_comm, mul-zero, mod-lt, mod-one, mod-eq_of_lt, div-add-mod, div-lt_iff_lt-mul}
use native.Mathlib.Omega.{arith}
use lib.Arith.{digits_lt, digits_div, digits_mod}
use lib.ListN.{length, get_or}
use lib.Pow.{pow_pos}
use Rattle.lists.specs.Tab.{tab, tab_from}
use Rattle.lists.specs.Numbers.{digit, Elements}
use Rattle.lists.proofs.Tabs.{get_d_tab, length-tab, tab_ext, is-tab}
use Rattle.lists.proofs.Digits.{number_lt, number_ext, digit_lt, digit-number, number_digits, elements-of}
use Rattle.places.specs.Places.{place, lane, row}
use Rattle.places.specs.Sizes.{Size, lanes}
use Rattle.places.proofs.Places.{lanes_some, size-lanes, place-row-lane, lane-lt, row_lt, lane_place, row-place, place-lt}
use Rattle.packing.specs.Packed.{word, part, words_number, values_number, word_at, pack_of, value_at, unpack_of}

module _ (t w : ℕ) where
  -- A packed block has w words for each lane.
  pub length-pack : (values : List ℕ) → length (pack_of t w values) ≡ lanes t * w
  unfolding pack_of word_at
  length-pack values = length-tab (lanes t * w) _

  -- Entry i is a digit of the number of the values of its lane.
  pub pack-at : (values : List ℕ) (i : ℕ) → i < lanes t * w
      → get_or (pack_of t w values) i 0 ≡ digit t (values_number t w values (i % lanes t)) (i / lanes t)
  unfolding pack_of word_at
  pack-at values i h = get_d_tab (lanes t * w) (λ i. digit t (values_number t w values (i % lanes t)) (i / lanes t)) i 0 h

  -- Each entry is a number of t bits.
  pub pack-fits : (values : List ℕ) → Elements t (pack_of t w values)
  pack-fits values =
      elements-of t (lanes t * w) (pack_of t w values) (length-pack values)
      (λ i h. rw (pack-at values i h) (digit_lt t (values_number t w values (i % lanes t)) (i / lanes t)))

  -- An unpacked block has 1,024 values.
  pub length-unpack : (packed : List ℕ) → length (unpack_of t w packed) ≡ 1024
  unfolding unpack_of
  length-unpack packed = length-tab 1024 (value_at t w packed)

  -- Entry p is the value at place p.
  pub unpack-at : (packed : List ℕ) (p : ℕ) → p < 1024 → get_or (unpack_of t w packed) p 0 ≡ value_at t w packed p
  unfolding unpack_of
  unpack-at packed p h = get_d_tab 1024 (value_at t w packed) p 0 h

  -- Each entry is a number of w bits.
  pub unpack-fits : (packed : List ℕ) (p : ℕ) → p < 1024 → get_or (unpack_of t w packed) p 0 < 2 ^ w
  unfolding value_at
  unpack-fits packed p h = rw (unpack-at packed p h) (digit_lt w (words_number t w packed (lane t p)) (row t p))

  -- What a row gives to the number of its lane is a number of w bits.
  pub part-lt : (values : List ℕ) (l r : ℕ) → part w values l r < 2 ^ w
  unfolding part
  part-lt values l r = mod-lt (get_or values (place r l) 0) (pow_pos w)

  -- the number of the values of a lane has t * w bits
  values_lt : (values : List ℕ) (l : ℕ) → values_number t w values l < 2 ^ (t * w)
  unfolding values_number
  values_lt values l = rw (mul_comm t w) (number_lt w (part w values l) t (λ r h. part-lt values l r))

  module _ (l k : ℕ) (hl : l < lanes t) (hk : k < w) where
    -- Word k of a lane is one of the words of the block.
    pub spot-lt : lanes t * k + l < lanes t * w
    spot-lt = rw (mul_comm (lanes t) k, mul_comm (lanes t) w) (digits_lt hk hl)

    -- Where the words of a block fit, each word of a lane does.
    pub word_fits : (x : List ℕ) → Elements t x → word t x l k < 2 ^ t
    unfolding word
    word_fits x fits = fits (lanes t * k + l)

    -- Word k of a packed lane is digit k of the number of its values.
    pub word-pack : (values : List ℕ) → word t (pack_of t w values) l k ≡ digit t (values_number t w values l) k
    unfolding word
    word-pack values =
        pack-at values (lanes t * k + l) spot-lt
        ∙ rw (mul_comm (lanes t) k, digits_mod k hl, digits_div k hl)

  module _ (l : ℕ) (hl : l < lanes t) where
    -- The one sum: in each lane the packed words make the number of the values.
    pub pack_sum : (values : List ℕ) → words_number t w (pack_of t w values) l ≡ values_number t w values l
    unfolding words_number
    pack_sum values =
        number_ext t (word t (pack_of t w values) l) (digit t (values_number t w values l)) w (λ k hk. word-pack l k hl hk values)
        ∙ number_digits t (values_number t w values l) w (values_lt values l)

    -- the number of the words of a lane has t * w bits
    words-lt : (x : List ℕ) → Elements t x → words_number t w x l < 2 ^ (t * w)
    unfolding words_number
    words-lt x fits = number_lt t (word t x l) w (λ k hk. word_fits l k hl hk x fits)

    -- Where the words fit, the digits of their number are the words.
    pub digit-words : (x : List ℕ) → Elements t x → (k : ℕ) → k < w → digit t (words_number t w x l) k ≡ word t x l k
    unfolding words_number
    digit-words x fits k hk = digit-number t (word t x l) w k (λ j hj. word_fits l j hl hj x fits) hk

    -- Lanes are packed alone: the words of a lane depend on the values of that lane and on no others.
    pub lane-alone : (v v' : List ℕ) → ((r : ℕ) → r < t → get_or v (place r l) 0 ≡ get_or v' (place r l) 0)
        → (k : ℕ) → k < w → word t (pack_of t w v) l k ≡ word t (pack_of t w v') l k
    unfolding values_number part
    lane-alone v v' same k hk =
        word-pack l k hl hk v
        ∙ ap (λ m. digit t m k) (number_ext w (part w v l) (part w v' l) t (λ r hr. ap (λ n. n % 2 ^ w) (same r hr)))
        ∙ sym (word-pack l k hl hk v')

-- word i of a block is word i / LANES of lane i % LANES

of-lane : {t : ℕ} → Size t → (i : ℕ) → i % lanes t < lanes t
of-lane s i = mod-lt i (lanes_some s)

of_word : {t : ℕ} → Size t → (w i : ℕ) → i < lanes t * w → i / lanes t < w
of_word {t} s w i h = (div-lt_iff_lt-mul (lanes_some s)).1 (rw (mul_comm w (lanes t)) h)

module _ {t : ℕ} (s : Size t) (w : ℕ) where
  -- The promise admits one answer: words that fit and make the sum are the packed ones.
  pub pack_only : (x values : List ℕ) → length x ≡ lanes t * w → Elements t x
      → ((l : ℕ) → l < lanes t → words_number t w x l ≡ values_number t w values l) → x ≡ pack_of t w values
  unfolding pack_of word_at word
  pack_only x values e fits sums =
      is-tab x (lanes t * w) _ 0 e
      (λ i h.
      let l : ℕ = i % lanes t in
      let k : ℕ = i / lanes t in
      ap (λ j. get_or x j 0) (sym (div-add-mod i (lanes t)))
      ∙ sym (digit-words t w l (of-lane s i) x fits k (of_word s w i h))
      ∙ ap (λ m. digit t m k) (sums l (of-lane s i)))

  -- the value at place p of what was packed
  value-pack : (values : List ℕ) (p : ℕ) → p < 1024 → value_at t w (pack_of t w values) p ≡ get_or values p 0 % 2 ^ w
  unfolding value_at values_number part
  value-pack values p h =
      ap (λ m. digit w m (row t p)) (pack_sum t w (lane t p) (lane-lt s p h) values)
      ∙ digit-number w (part w values (lane t p)) t (row t p) (λ r hr. part-lt t w values (lane t p) r) (row_lt s p h)
      ∙ ap (λ q. get_or values q 0 % 2 ^ w) (place-row-lane s p h)

  -- What comes back from packing is each value, cut to w bits.
  pub unpack-pack : (values : List ℕ) (p : ℕ) → p < 1024 → get_or (unpack_of t w (pack_of t w values)) p 0 ≡ get_or values p 0 % 2 ^ w
  unpack-pack values p h = unpack-at t w (pack_of t w values) p h ∙ value-pack values p h

  -- So a block comes back as it was exactly when each of its values is a number of w bits.
  pub restores : (values : List ℕ) → length values ≡ 1024
      → (unpack_of t w (pack_of t w values) ≡ values) ↔ ((p : ℕ) → p < 1024 → get_or values p 0 < 2 ^ w)
  unfolding unpack_of
  restores values e = (
    (λ same p h. subst (λ v. get_or v p 0 < 2 ^ w) same (unpack-fits t w (pack_of t w values) p h)),
    (λ small. sym (is-tab values 1024 _ 0 e (λ p h. sym (value-pack values p h ∙ mod-eq_of_lt (small p h))))),
  )

  -- The value at row r of lane l is digit r of the number of the lane's words.
  pub value-place : (packed : List ℕ) (l r : ℕ) → l < lanes t → r < t → value_at t w packed (place r l) ≡ digit w (words_number t w packed l) r
  unfolding value_at
  value-place packed l r hl hr = rw (lane_place s r l hr hl, row-place s r l hr hl)

  -- so that is what row r of the unpacked block gives to the number of lane l
  part-unpack : (packed : List ℕ) (l r : ℕ) → l < lanes t → r < t → part w (unpack_of t w packed) l r ≡ digit w (words_number t w packed l) r
  unfolding part
  part-unpack packed l r hl hr =
      ap (λ n. n % 2 ^ w) (unpack-at t w packed (place r l) (place-lt s r l hr hl) ∙ value-place packed l r hl hr)
      ∙ mod-eq_of_lt (digit_lt w (words_number t w packed l) r)

  -- The sum from the other side: in each lane the unpacked values make the number of the words.
  pub unpack_sum : (packed : List ℕ) → Elements t packed → (l : ℕ) → l < lanes t
      → values_number t w (unpack_of t w packed) l ≡ words_number t w packed l
  unfolding values_number
  unpack_sum packed fits l hl =
      number_ext w (part w (unpack_of t w packed) l) (digit w (words_number t w packed l)) t (λ r hr. part-unpack packed l r hl hr)
      ∙ number_digits w (words_number t w packed l) t (rw (mul_comm w t) (words-lt t w l hl packed fits))

  -- Packing puts back the words that a block was unpacked from.
  pub pack-unpack : (packed : List ℕ) → length packed ≡ lanes t * w → Elements t packed → pack_of t w (unpack_of t w packed) ≡ packed
  pack-unpack packed e fits = sym (pack_only packed (unpack_of t w packed) e fits (λ l hl. sym (unpack_sum packed fits l hl)))

-- ---- the widths at the two ends

-- At width 0 a packed block has no words,
pub width-zero-pack : (t : ℕ) (values : List ℕ) → pack_of t 0 values ≡ []
unfolding pack_of tab tab_from
width-zero-pack t values = rw (mul-zero)

-- A list without entries is the empty one.
no_words : (x : List ℕ) → length x ≡ 0 → x ≡ []
no_words [] e = refl
no_words (a ∷ x) e = absurd (omega arith)

-- A packed block of width 0 is the one block with no words.
pub width-zero_only : (t : ℕ) (values x : List ℕ) → length x ≡ lanes t * 0 → x ≡ pack_of t 0 values
width-zero_only t values x e = no_words x (e ∙ mul-zero (lanes t)) ∙ sym (width-zero-pack t values)

-- A digit of no bits is 0,
pub digit-zero : (m r : ℕ) → digit 0 m r ≡ 0
unfolding digit
digit-zero m r = mod-one (m / 2 ^ (0 * r))

-- so at width 0 every value is zero, at whatever index it is asked for.
pub value-zero : (t : ℕ) (packed : List ℕ) (p : ℕ) → value_at t 0 packed p ≡ 0
unfolding value_at
value-zero t packed p = digit-zero (words_number t 0 packed (lane t p)) (row t p)

pub width-zero-unpack : (t : ℕ) (packed : List ℕ) → unpack_of t 0 packed ≡ tab 1024 (λ _. 0)
unfolding unpack_of
width-zero-unpack t packed = tab_ext 1024 _ _ 0 (λ p h. value-zero t packed p)

module _ {t : ℕ} (s : Size t) where
  -- at width t a lane has as many words as rows
  full : lanes t * t ≡ 1024
  full = mul_comm (lanes t) t ∙ size-lanes s

  -- At width t, packing copies the values: word k of lane l is the value at row k of lane l, cut to t bits,
  pub width-full-pack : (values : List ℕ) → pack_of t t values ≡ tab 1024 (λ i. get_or values (place (i / lanes t) (i % lanes t)) 0 % 2 ^ t)
  unfolding pack_of word_at values_number part
  width-full-pack values =
      tab_ext (lanes t * t) _ _ 0
      (λ i h. digit-number t (part t values (i % lanes t)) t (i / lanes t) (λ r _. part-lt t t values (i % lanes t) r) (of_word s t i h))
      ∙ ap (λ n. tab n (λ i. get_or values (place (i / lanes t) (i % lanes t)) 0 % 2 ^ t)) full

  -- which is the value itself where that has t bits.
  pub width-full_copies : (values : List ℕ) → ((p : ℕ) → p < 1024 → get_or values p 0 < 2 ^ t)
      → pack_of t t values ≡ tab 1024 (λ i. get_or values (place (i / lanes t) (i % lanes t)) 0)
  width-full_copies values small =
      width-full-pack values
      ∙ tab_ext 1024 _ _ 0
      (λ i h.
      let k : ℕ = i / lanes t in
      let l : ℕ = i % lanes t in
      mod-eq_of_lt (small (place k l) (place-lt s k l (of_word s t i (rw full h)) (of-lane s i))))

  -- And unpacking copies the words.
  pub width-full-unpack : (packed : List ℕ) → Elements t packed → (p : ℕ) → p < 1024 → value_at t t packed p ≡ word t packed (lane t p) (row t p)
  unfolding value_at
  width-full-unpack packed fits p h = digit-words t t (lane t p) (lane-lt s p h) packed fits (row t p) (row_lt s p h)
