-- What one turn of the walks does to rows: the laws of `Steps`, said of all lanes at once, over the element size.
-- Single access reads one lane by `value-one` and `value_two`. What a walk holds between two turns is said in `Walks`.
-- Assumes nothing.
use mathlib.Core.Path.{◌≡◌, sym, ap, ap₂, ◌∙◌}
use mathlib.Core.List.{List}
use Prim.Native.Nat.{ℕ, ◌+◌, ◌-◌, ◌*◌, ◌/◌, ◌%◌, ◌^◌, ◌≤◌, ◌<◌}
use native.Mathlib.Nat.{mul-suc, mul_comm, mul-le-mul_left, le_of_lt, mod-lt, div-add-mod'}
use native.Mathlib.Numerals.{add-one}
use native.Mathlib.Omega.{arith}
use lib.Arith.{digits_div, digits_mod}
use lib.Bits.{bit_or}
use lib.ListN.{get_or}
use Rattle.lists.specs.Tab.{tab}
use Rattle.lists.specs.Numbers.{digit, Elements}
use Rattle.lists.proofs.Tabs.{tab_ext}
use Rattle.places.specs.Places.{place}
use Rattle.places.specs.Sizes.{Size, lanes}
use Rattle.places.proofs.Places.{size_some}
use Rattle.rows.specs.Rows.{splat_of, shr_of, or_shl_of, mask_of}
use Rattle.rows.proofs.Blocks.{row_from_lem, row_of}
use Rattle.rows.proofs.Rows.{shr-tab, mask-tab, or_shl-tab}
use Rattle.packing.specs.Packed.{word, part, words_number, values_number, word_at, value_at}
use Rattle.packing.proofs.Rounds.{word_fits, value-place, part-lt}
use Rattle.packing.proofs.Steps.{held, word_lt, second_lt, filling, read_one, read_two}
use Rattle.packing.proofs.Steps.{held-zero, write_on, write_word, write-rest}

-- row r begins at bit (r · w) mod t of word (r · w) / t
pub begins : (t w r : ℕ) → r * w ≡ r * w / t * t + r * w % t
begins t w r = sym (div-add-mod' (r * w) t)

-- word k of the packed block has a whole row of LANES words
pub word_room : (t w k : ℕ) → k < w → lanes t * k + lanes t ≤ lanes t * w
word_room t w k h =
    let m : lanes t * (k + 1) ≤ lanes t * w = mul-le-mul_left (lanes t) (omega arith) in
    omega (arith, ap (λ n. lanes t * n) (add-one k) ∙ mul-suc (lanes t) k)

-- the row of words k of a packed block
abbrev pub word_row : ℕ → List ℕ → ℕ → List ℕ
word_row t packed k = row_from_lem t packed (lanes t * k)

module _ {t : ℕ} (size : Size t) (w r : ℕ) (hr : r < t) (pos : 0 < w) where
  s_lt : r * w % t < t
  s_lt = mod-lt (r * w) (size_some size)

  pub first_word : r * w / t < w
  first_word = word_lt t w r (r * w / t) (r * w % t) (begins t w r) s_lt hr pos

  pub next_word : t < r * w % t + w → r * w / t + 1 < w
  next_word over = second_lt t w r (r * w / t) (r * w % t) (begins t w r) s_lt hr over

  module _ (packed : List ℕ) (small : Elements t packed) where
    lane-small : (l : ℕ) → l < lanes t → (k : ℕ) → k < w → word t packed l k < 2 ^ t
    lane-small l hl k hk = word_fits t w l k hl hk packed small

    -- the value of one lane, in one word and in two
    module _ (l : ℕ) (hl : l < lanes t) where
      pub value-one : r * w % t + w ≤ t → word t packed l (r * w / t) / 2 ^ (r * w % t) % 2 ^ w ≡ digit w (words_number t w packed l) r
      unfolding words_number
      value-one fits = sym (read_one t w r (r * w / t) (r * w % t) (begins t w r) s_lt (word t packed l) (lane-small l hl) hr pos fits)

      pub value_two : w ≤ t → t < r * w % t + w
          → bit_or (word t packed l (r * w / t) / 2 ^ (r * w % t)) (word t packed l (r * w / t + 1) * 2 ^ (t - r * w % t) % 2 ^ t) % 2 ^ w
          ≡ digit w (words_number t w packed l) r
      unfolding words_number
      value_two narrow over =
          sym (read_two t w r (r * w / t) (r * w % t) (begins t w r) s_lt (word t packed l) (lane-small l hl) hr narrow over)

    -- a row that lies in one word
    pub row_one : w < t → r * w % t + w ≤ t
        → mask_of t (shr_of t (word_row t packed (r * w / t)) (r * w % t)) w ≡ tab (lanes t) (λ l. digit w (words_number t w packed l) r)
    unfolding word
    row_one narrow fits =
        ap (λ x. mask_of t x w) (shr-tab t _ (λ _. 0) (r * w % t) s_lt)
        ∙ mask-tab t _ (λ _. 0) w narrow
        ∙ tab_ext (lanes t) _ _ 0
        (λ l hl. value-one l hl fits)

    -- a row that crosses into the next word
    pub row_two : w < t → t < r * w % t + w
        → mask_of t (or_shl_of t (shr_of t (word_row t packed (r * w / t)) (r * w % t)) (word_row t packed (r * w / t + 1)) (t - r * w % t)) w
        ≡ tab (lanes t) (λ l. digit w (words_number t w packed l) r)
    unfolding word
    row_two narrow over =
        ap (λ x. mask_of t (or_shl_of t x (word_row t packed (r * w / t + 1)) (t - r * w % t)) w) (shr-tab t _ (λ _. 0) (r * w % t) s_lt)
        ∙ ap (λ x. mask_of t x w) (or_shl-tab t _ _ (t - r * w % t) (omega arith))
        ∙ mask-tab t _ (λ _. 0) w narrow
        ∙ tab_ext (lanes t) _ _ 0
        (λ l hl. value_two l hl (omega arith) over)

-- the digits of row r in all lanes are the values at the row's places
pub values_row : {t : ℕ} (size : Size t) (w r : ℕ) (packed : List ℕ) → r < t
    → tab (lanes t) (λ l. digit w (words_number t w packed l) r) ≡ tab (lanes t) (λ l. value_at t w packed (place r l))
values_row {t} size w r packed hr = tab_ext (lanes t) _ _ 0 (λ l hl. sym (value-place size w packed l r hl hr))

-- ---- writing

-- After r rows the lanes hold this of the words that are not full yet.
unfoldable pub held_row : (t w : ℕ) (values : List ℕ) (r : ℕ) → List ℕ
held_row t w values r = tab (lanes t) (λ l. held t w (part w values l) r)

-- word k of lane l is digit k of the lane's number
pub word_lane : (t w : ℕ) (values : List ℕ) (k l : ℕ) → l < lanes t → word_at t w values (lanes t * k + l) ≡ digit t (values_number t w values l) k
unfolding word_at
word_lane t w values k l h =
    let e : lanes t * k + l ≡ k * lanes t + l = ap (λ n. n + l) (mul_comm (lanes t) k) in
    ap₂ (λ m n. digit t (values_number t w values m) n) (ap (λ n. n % lanes t) e ∙ digits_mod k h) (ap (λ n. n / lanes t) e ∙ digits_div k h)

-- before the first row nothing is held
pub held_none : (t w : ℕ) (values : List ℕ) → splat_of t 0 ≡ held_row t w values 0
unfolding splat_of held_row
held_none t w values = tab_ext (lanes t) _ _ 0 (λ l _. sym (held-zero t w (part w values l)))

-- what each lane gives of row r to its number
pub parts_row : (t w r : ℕ) (values : List ℕ) → w < t → mask_of t (row_of t values r) w ≡ tab (lanes t) (λ l. part w values l r)
unfolding part
parts_row t w r values narrow = mask-tab t _ (λ _. 0) w narrow

module _ {t : ℕ} (size : Size t) (w r : ℕ) (hr : r < t) (narrow : w < t) (values : List ℕ) where
  s_less : r * w % t < t
  s_less = mod-lt (r * w) (size_some size)

  parts_small : (l i : ℕ) → i < t → part w values l i < 2 ^ w
  parts_small l i _ = part-lt t w values l i

  -- the words that are held, joined by what row r gives, are held on where they are not full
  pub held_on : r * w % t + w < t → or_shl_of t (held_row t w values r) (mask_of t (row_of t values r) w) (r * w % t) ≡ held_row t w values (r + 1)
  unfolding held_row
  held_on less =
      ap (λ x. or_shl_of t (held_row t w values r) x (r * w % t)) (parts_row t w r values narrow)
      ∙ or_shl-tab t _ _ (r * w % t) s_less
      ∙ tab_ext (lanes t) _ _ 0
      (λ l _. sym (write_on t w r (r * w / t) (r * w % t) (begins t w r) s_less (part w values l) (parts_small l) hr less))

  module _ (full : t ≤ r * w % t + w) where
    -- Where they are full they are the packed block's words. What the values of row r have above the width does not
    -- reach them.
    pub full-words : or_shl_of t (held_row t w values r) (row_of t values r) (r * w % t) ≡ tab (lanes t) (λ l. word_at t w values (lanes t * (r * w / t) + l))
    unfolding held_row values_number part
    full-words =
        or_shl-tab t _ _ (r * w % t) s_less
        ∙ tab_ext (lanes t) _ _ 0
        (λ l hl.
        ap (bit_or (held t w (part w values l) r)) (sym (filling (get_or values (place r l) 0) w (r * w % t) t (le_of_lt s_less) full))
        ∙ sym (word_lane t w values (r * w / t) l hl
        ∙ write_word t w r (r * w / t) (r * w % t) (begins t w r) s_less (part w values l) (parts_small l) hr full))

    -- and what row r leaves over is held then
    pub held-rest : shr_of t (mask_of t (row_of t values r) w) (t - r * w % t) ≡ held_row t w values (r + 1)
    unfolding held_row
    held-rest =
        ap (λ x. shr_of t x (t - r * w % t)) (parts_row t w r values narrow)
        ∙ shr-tab t _ (λ _. 0) (t - r * w % t) (omega arith)
        ∙ tab_ext (lanes t) _ _ 0
        (λ l _. sym (write-rest t w r (r * w / t) (r * w % t) (begins t w r) s_less (part w values l) (parts_small l) hr (omega arith) full))
