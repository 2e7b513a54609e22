-- The packed block of the plain engine is laid out as the sentence of specs/Plain says, and there is no other such
-- block. Over the element size.
-- Assumes nothing.
use mathlib.Core.List.{List}
use mathlib.Core.Path.{◌≡◌, sym, ap, ap₂, ◌∙◌, subst}
use Prim.Native.Nat.{ℕ, ◌+◌, ◌*◌, ◌/◌, ◌%◌, ◌^◌, ◌<◌}
use native.Mathlib.Nat.{one-mul, mul_comm, mod-lt, div-add-mod', div-lt_iff_lt-mul}
use lib.Arith.{digits_lt, digits_div, digits_mod}
use lib.ListN.{get_or}
use Rattle.lists.specs.Numbers.{Elements}
use Rattle.lists.proofs.Digits.{number_ext, digit-number, number_digits}
use Rattle.lists.proofs.Tabs.{length-tab, get_d_tab, is-tab}
use Rattle.places.specs.Places.{place}
use Rattle.places.specs.Sizes.{Size, lanes}
use Rattle.places.proofs.Places.{size_some, lanes_some}
use Rattle.plain.specs.Plain.{bit, bit_at, bit_of, word_in, plain_pack, Laid}
use Rattle.plain.proofs.Bits.{bit_of_small, lane-bit, word-bit}

-- a bit of a word is the one that it was made of
word-of-bits : (t w : ℕ) (values : List ℕ) (l k j : ℕ) → j < t → bit (word_in t w values l k) j ≡ bit_of t w values l k j
unfolding word_in
word-of-bits t w values l k j h = digit-number 1 (bit_of t w values l k) t j (λ i _. bit_of_small t w values l k i) h

module _ {t : ℕ} (s : Size t) (w : ℕ) (values : List ℕ) where
  -- word k of lane l of the packed block
  packed_word : (l k : ℕ) → l < lanes t → k < w → get_or (plain_pack t w values) (lanes t * k + l) 0 ≡ word_in t w values l k
  unfolding plain_pack
  packed_word l k hl hk =
      let e : lanes t * k + l ≡ k * lanes t + l = ap (λ n. n + l) (mul_comm (lanes t) k) in
      let h : lanes t * k + l < lanes t * w = subst (λ n. lanes t * k + l < n) (mul_comm w (lanes t)) (subst (λ n. n < w * lanes t) (sym e) (digits_lt hk hl)) in
      get_d_tab (lanes t * w) (λ i. word_in t w values (i % lanes t) (i / lanes t)) (lanes t * k + l) 0 h
      ∙ ap₂ (word_in t w values) (ap (λ n. n % lanes t) e ∙ digits_mod k hl) (ap (λ n. n / lanes t) e ∙ digits_div k hl)

  -- What pack leaves is laid out as the sentence says.
  pub pack_laid : Laid t w values (plain_pack t w values)
  unfolding plain_pack bit_at bit_of
  pack_laid =
      record {
        whole = length-tab (lanes t * w) _;
        bits = λ l r b hl hr hb.
            let x : ℕ = r * w + b in
            let h : x / t < w = (div-lt_iff_lt-mul (size_some s)).1 (subst (λ n. x < n) (mul_comm t w) (lane-bit hr hb)) in
            let e : x / t * t + x % t ≡ x = div-add-mod' x t in
            ap (λ m. bit m (x % t)) (packed_word l (x / t) hl h)
            ∙ word-of-bits t w values l (x / t) (x % t) (mod-lt x (size_some s))
            ∙ ap₂ (λ r b. bit (get_or values (place r l) 0) b) (ap (λ n. n / w) e ∙ digits_div r hb) (ap (λ n. n % w) e ∙ digits_mod r hb);
      }

  -- No other block of numbers of t bits is.
  pub laid_only : (packed : List ℕ) → Elements t packed → Laid t w values packed → packed ≡ plain_pack t w values
  unfolding plain_pack word_in bit_at bit_of
  laid_only packed small laid =
      is-tab packed (lanes t * w) _ 0 laid.whole
      (λ i hi.
      let l : ℕ = i % lanes t in
      let k : ℕ = i / lanes t in
      let hl : l < lanes t = mod-lt i (lanes_some s) in
      let hk : k < w = (div-lt_iff_lt-mul (lanes_some s)).1 (subst (λ n. i < n) (mul_comm (lanes t) w) hi) in
      let at : lanes t * k + l ≡ i = ap (λ n. n + l) (mul_comm (lanes t) k) ∙ div-add-mod' i (lanes t) in
      let fits : get_or packed i 0 < 2 ^ (1 * t) = subst (λ e. get_or packed i 0 < 2 ^ e) (sym (one-mul t)) (small i) in
      let same : (j : ℕ) → j < t → bit (get_or packed i 0) j ≡ bit_of t w values l k j =
      λ j hj.
      let x : ℕ = k * t + j in
      let in_row = word-bit hk hj in
      let e : x / w * w + x % w ≡ x = div-add-mod' x w in
      ap₂ (λ n b. bit (get_or packed n 0) b) (sym (ap (λ k. lanes t * k + l) (ap (λ n. n / t) e ∙ digits_div k hj) ∙ at)) (sym (ap (λ n. n % t) e ∙ digits_mod k hj))
      ∙ laid.bits l (x / w) (x % w) hl in_row.0 in_row.1 in
      sym (number_digits 1 (get_or packed i 0) t fits) ∙ number_ext 1 (bit (get_or packed i 0)) (bit_of t w values l k) t same)
