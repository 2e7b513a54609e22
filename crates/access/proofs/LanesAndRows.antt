-- The value of a place's row in its lane is the value at the place. Where the words of a lane stand. And the arithmetic
-- of the row at the two element sizes that have no tables.
-- Assumes nothing.
use mathlib.Core.Logic.{◌⊎◌, ⊎_elim}
use mathlib.Core.Path.{subst⁻¹}
use Rattle.std.proofs.Common.{◌≡◌, ℕ, ◌+◌, ◌*◌, ◌/◌, ◌%◌, ◌<◌, List, get_or, arith, refl, inl, inr, sym, ap, ap₂, subst, ◌∙◌, mod-eq_of_lt}
use Rattle.lists.specs.Numbers.{digit}
use Rattle.lists.proofs.Every.{Same, same}
use Rattle.places.specs.Places.{order, lane, row}
use Rattle.places.specs.Sizes.{t8, t16, Size, lanes}
use Rattle.places.proofs.Places.{lane-lt, row_lt}
use Rattle.packing.specs.Packed.{word, words_number, value_at}
use Rattle.access.specs.Counts.{words_read, count_at}

module _ {t : ℕ} (s : Size t) (i : ℕ) (h : i < 1024) (r : ℕ) (er : r ≡ row t i) where
  pub row-range : r < t
  row-range = subst (λ n. n < t) (sym er) (row_lt s i h)

  pub looked_count : (w n : ℕ) → n ≡ words_read t w r → n ≡ count_at t w i
  unfolding count_at
  looked_count w n e = e ∙ ap (words_read t w) er

  module _ (l : ℕ) (el : l ≡ lane t i) where
    pub lane_range : l < lanes t
    lane_range = subst (λ n. n < lanes t) (sym el) (lane-lt s i h)

    -- what is read of the row in the lane is the value at the place, and its count
    pub looked_value : {S : Type 0} (value : ℕ → ℕ → S) (w : ℕ) (packed : List ℕ)
        → value (digit w (words_number t w packed l) r) (words_read t w r) ≡ value (value_at t w packed i) (count_at t w i)
    unfolding value_at count_at
    looked_value value w packed = ap₂ (λ l r. value (digit w (words_number t w packed l) r) (words_read t w r)) el er

-- ---- where the words of a lane stand, for LANES as a number of its own

module _ (t : ℕ) {lane_count : ℕ} (e : lanes t ≡ lane_count) (packed : List ℕ) (l k : ℕ) where
  pub word_at : get_or packed (lane_count * k + l) 0 ≡ word t packed l k
  unfolding word
  word_at = ap (λ n. get_or packed (n * k + l) 0) (sym e)

  -- LANES places on from a word of a lane the lane's next word stands
  pub word_next : get_or packed (lane_count * k + l + lane_count) 0 ≡ word t packed l (k + 1)
  unfolding word
  word_next =
      let on : lane_count * k + l + lane_count ≡ lane_count * (k + 1) + l = omega arith in
      ap (λ i. get_or packed i 0) on ∙ ap (λ n. get_or packed (n * (k + 1) + l) 0) (sym e)

-- ---- the element sizes that have no tables

abbrev pub Small : ℕ → Type 0
Small t = (t ≡ t8) ⊎ (t ≡ t16)

pub small-t8 : Small t8
small-t8 = inl refl

pub small-t16 : Small t16
small-t16 = inr refl

-- Of the order list no more than its entries 0 and 4 are asked there, which are 0 and 1, so it is left out.
pub row_by_eights : {t : ℕ} → Small t → (p : ℕ) → p < 1024 → p / lanes t % (t / 8) * 8 + p / 128 ≡ row t p
unfolding order lane row
row_by_eights {t} s p h =
    let test : ℕ → Type 0 = λ t. Same 1024 (λ p. p / lanes t % (t / 8) * 8 + p / 128) (row t) in
    same 1024 (λ p. p / lanes t % (t / 8) * 8 + p / 128) (row t)
    (⊎_elim (λ e. subst⁻¹ test e tt) (λ e. subst⁻¹ test e tt) s) p h

-- In the numbers of T 16, and in those of T 8, where there are no second eight rows:
pub row-t16 : (p : ℕ) → p < 1024 → p / 64 % 2 * 8 + p / 128 ≡ row t16 p
row-t16 = row_by_eights small-t16

pub row-t8 : (p : ℕ) → p < 1024 → p / 128 ≡ row t8 p
unfolding order lane row
row-t8 = same 1024 (λ p. p / 128) (row t8) tt

-- A place of a block is taken as it is.
pub place-in : (f : ℕ → ℕ) {p r : ℕ} → p < 1024 → r ≡ f (p % 1024) → r ≡ f p
place-in f h e = e ∙ ap f (mod-eq_of_lt h)
