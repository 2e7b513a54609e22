-- The count of the plain engine, which looks at the word of each bit, is the count of R39. Over the element size and
-- the width.
-- Assumes nothing.
use mathlib.Core.Path.{◌≡◌, sym, ap, ◌∙◌}
use Prim.Native.Nat.{ℕ, zero, suc, ◌+◌, ◌-◌, ◌*◌, ◌/◌, ◌%◌, ◌≤◌, ◌<◌}
use native.Mathlib.Decide.{dec_le}
use native.Mathlib.Nat.{add_comm, add-zero}
use native.Mathlib.Omega.{arith}
use lib.Dec.{eqb}
use borrow.Author.Tests.{eq-eqb, ne_eqb}
use Rattle.lists.specs.Pick.{pick}
use Rattle.places.specs.Places.{row}
use Rattle.places.specs.Sizes.{Size}
use Rattle.places.proofs.Places.{each}
use Rattle.access.specs.Counts.{words_read, count_at}
use Rattle.access.proofs.Counts.{words-none, words-one, words_two}
use Rattle.plain.specs.Plain.{word_of, new_word_lem, words_for, plain_count}

-- the next bit stands in the same word or in the next one
Step : ℕ → Type 0
Step t = (x n : ℕ) → ((x + n) / t ≤ (x + suc n) / t) × ((x + suc n) / t ≤ (x + n) / t + 1)

step : {t : ℕ} → Size t → Step t
unfolding Step
step s =
    each Step (λ x n. (omega arith, omega arith)) (λ x n. (omega arith, omega arith)) (λ x n. (omega arith, omega arith))
    (λ x n. (omega arith, omega arith)) s

-- the last of so many bits stands in the word of the first one, or in the next one
Span : ℕ → Type 0
Span t = (x m : ℕ) → (x % t + suc m ≤ t → (x + m) / t ≡ x / t) × (t < x % t + suc m → suc m ≤ t → (x + m) / t ≡ x / t + 1)

span : {t : ℕ} → Size t → Span t
unfolding Span
span s =
    each Span (λ x m. (λ one. omega arith, λ two h. omega arith)) (λ x m. (λ one. omega arith, λ two h. omega arith))
    (λ x m. (λ one. omega arith, λ two h. omega arith)) (λ x m. (λ one. omega arith, λ two h. omega arith)) s

module _ {t : ℕ} (s : Size t) (w r : ℕ) where
  -- a bit comes from a new word exactly when its word's number is one higher
  new_word : (n : ℕ) → new_word_lem t w r (suc n) + word_of t w r n ≡ word_of t w r (suc n)
  unfolding new_word_lem Step
  new_word n =
      let near = step s (r * w) n in
      let here = word_of t w r (suc n) in
      let before = word_of t w r (suc n - 1) in
      let e : before ≡ word_of t w r n = ap (word_of t w r) (omega arith) in
      let later : new_word_lem t w r (suc n) ≡ pick (eqb here before) 0 1 =
      ap (λ b. pick b 1 (pick (eqb here before) 0 1)) (ne_eqb (suc n) 0 (λ z. omega arith)) in
      elim (dec_le here (word_of t w r n)) [
        | yes same ↦ omega (arith, later ∙ ap (λ b. pick b 0 1) (eq-eqb here before (omega (arith, near.0, e))), near.0)
        | no other ↦ omega (arith, later ∙ ap (λ b. pick b 0 1) (ne_eqb here before (λ f. omega (arith, e))), near.0, near.1)
      ]

  -- so the words are those from the first bit's to the last one's
  words_from_lem : (n : ℕ) → words_for t w r (suc n) + r * w / t ≡ word_of t w r n + 1
  unfolding words_for new_word_lem
  words_from_lem zero = add_comm 1 (r * w / t) ∙ ap (λ x. x / t + 1) (sym (add-zero (r * w)))
  words_from_lem (suc n) = omega (arith, words_from_lem n, new_word n)

  -- The bits of a row come from as many words as R39 says.
  pub words_agree : w ≤ t → words_for t w r w ≡ words_read t w r
  unfolding words_for Span
  words_agree h =
      elim (dec_le w 0) [
        | yes none ↦
            let e : w ≡ 0 = omega arith in
            ap (words_for t w r) e ∙ sym (words-none t w r e)
        | no some ↦
            let m : ℕ = w - 1 in
            let e : w ≡ suc m = omega arith in
            let all : words_for t w r w ≡ words_for t w r (suc m) = ap (words_for t w r) e in
            let ends = span s (r * w) m in
            elim (dec_le (r * w % t + w) t) [
              | yes one ↦ omega (arith, all, words_from_lem m, ends.0 (omega arith), words-one t w r (λ z. omega arith) one)
              | no two ↦
                  omega (arith, all, words_from_lem m, ends.1 (omega arith) (omega arith), words_two t w r (λ z. omega arith) (omega arith))
            ]
      ]

pub count_agrees : {t : ℕ} → Size t → (w p : ℕ) → w ≤ t → plain_count t w p ≡ count_at t w p
unfolding plain_count count_at
count_agrees {t} s w p h = words_agree s w (row t p) h
