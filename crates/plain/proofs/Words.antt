-- The laws of the search for a row, and of the count of words, over the element size.
-- Assumes nothing.
use mathlib.Core.Bool.{Bool, true, false, not, ◌&&◌}
use mathlib.Core.Path.{◌≡◌, refl, sym, ap, ◌∙◌}
use Prim.Native.Nat.{ℕ, zero, suc, ◌+◌, ◌-◌, ◌*◌, ◌/◌, ◌≤◌, ◌<◌}
use native.Mathlib.Decide.{dec_lt}
use native.Mathlib.Nat.{mul-le-mul_right}
use native.Mathlib.Numerals.{add-one}
use native.Mathlib.Omega.{arith}
use lib.Dec.{eqb, leb, ltb}
use borrow.Author.Tests.{le-leb, lt-ltb, leb-true, ltb-true}
use Rattle.lists.specs.Pick.{pick, both}
use Rattle.lists.proofs.Tests.{both_true, false-true}
use Rattle.places.specs.Places.{place, lane, row}
use Rattle.places.specs.Sizes.{Size, lanes}
use Rattle.places.proofs.Places.{each, size-most, place-row-lane, place-lane, lane-lt, row_lt, row-place, order_lt}
use Rattle.plain.specs.Plain.{word_of, new_word_lem, words_for}

-- LANES is at most 128
pub lanes-most : {t : ℕ} → Size t → lanes t ≤ 128
lanes-most s = each (λ t. lanes t ≤ 128) (omega arith) (omega arith) (omega arith) (omega arith) s

-- no row starts beyond the block
pub row-most : (r : ℕ) → r < 64 → place r 0 ≤ 1023
unfolding place
row-most r h = omega (arith, order_lt (r / 8) (omega arith))

-- the code's way to join two tests, and to turn one round
pub and_both : (a b : Bool) → a && b ≡ both a b
and_both true b = refl
and_both false b = refl

pub not-true : (b : Bool) → not b ≡ true → b ≡ false
not-true true e = sym e
not-true false e = refl

pub not-false : (b : Bool) → not b ≡ false → b ≡ true
not-false true e = refl
not-false false e = sym e

module _ {t : ℕ} (s : Size t) (p : ℕ) (h : p < 1024) where
  -- a place is as far from where its row starts as its lane says
  pub row-lane : place (row t p) 0 + lane t p ≡ p
  row-lane = sym (place-lane (row t p) (lane t p)) ∙ place-row-lane s p h

  pub row-few : row t p < 64
  row-few = omega (arith, row_lt s p h, size-most s)

  -- the search ends at the row of the place, and not before
  pub stands : both (leb (place (row t p) 0) p) (ltb p (place (row t p) 0 + lanes t)) ≡ true
  stands =
      let low : place (row t p) 0 ≤ p = omega (arith, row-lane) in
      let high : p < place (row t p) 0 + lanes t = omega (arith, row-lane, lane-lt s p h) in
      simp (le-leb (place (row t p) 0) p low, lt-ltb p (place (row t p) 0 + lanes t) high)

  module _ (r : ℕ) (passed : r ≤ row t p) where
    pub passed_on : both (leb (place r 0) p) (ltb p (place r 0 + lanes t)) ≡ false → r < row t p
    passed_on out =
        elim (dec_lt r (row t p)) [
          | yes below ↦ below
          | no same ↦
              let e : r ≡ row t p = omega arith in
              absurd (false-true (sym out ∙ ap (λ r. both (leb (place r 0) p) (ltb p (place r 0 + lanes t))) e ∙ stands))
        ]

    pub found : both (leb (place r 0) p) (ltb p (place r 0 + lanes t)) ≡ true → r ≡ row t p
    found in-it =
        let tests = both_true _ _ in-it in
        let low : place r 0 ≤ p = leb-true _ _ tests.0 in
        let high : p < place r 0 + lanes t = ltb-true _ _ tests.1 in
        let e : place r (p - place r 0) ≡ p = place-lane r (p - place r 0) ∙ omega arith in
        sym (row-place s r (p - place r 0) (omega (arith, row_lt s p h)) (omega arith)) ∙ ap (row t) e

-- a bit comes from at most one new word, so there are no more words than bits
new-small : (t w r b : ℕ) → new_word_lem t w r b ≤ 1
unfolding new_word_lem
new-small t w r b = go (eqb b 0) (eqb (word_of t w r b) (word_of t w r (b - 1)))
  where
    go : (first same : Bool) → pick first 1 (pick same 0 1) ≤ 1
    go true same = omega arith
    go false true = omega arith
    go false false = omega arith

pub words-next : (t w r n : ℕ) → words_for t w r (n + 1) ≡ words_for t w r n + new_word_lem t w r n
unfolding words_for
words-next t w r n = ap (words_for t w r) (add-one n)

pub words-few : (t w r n : ℕ) → words_for t w r n ≤ n
unfolding words_for
words-few t w r zero = omega arith
words-few t w r (suc n) = omega (arith, words-few t w r n, new-small t w r n)

-- the bits of a row are among the lane's bits, of which there are at most 64 · 64
pub lane-bits : {t w r : ℕ} → Size t → r < t → w ≤ t → r * w ≤ 4096
lane-bits {t} {w} {r} s hr hw =
    let a : r * w ≤ 64 * w = mul-le-mul_right w (omega (arith, size-most s)) in
    omega (arith, a, size-most s)
