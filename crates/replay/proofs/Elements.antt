-- How many bytes an element has, and that all elements of a buffer lie within 32,768 bytes.
-- Assumes nothing.
use Rattle.std.proofs.Common.{◌≡◌, ℕ, suc, ◌+◌, ◌*◌, ◌<◌, ◌≤◌, true, eqb, ⊎_elim, suc-mul, mul-le-mul, arith, eqb-true}
use Rattle.lists.specs.Pick.{either}
use Rattle.lists.proofs.Tests.{either_true}
use Rattle.replay.specs.Elements.{is_size}

module _ (size : ℕ) (is : is_size size ≡ true) where
  -- what holds of the four sizes holds of an element's
  by_size : {P : Type 0} → (size ≡ 1 → P) → (size ≡ 2 → P) → (size ≡ 4 → P) → (size ≡ 8 → P) → P
  by_size one two four eight =
      ⊎_elim
      (λ h. ⊎_elim (λ e. one (eqb-true size 1 e)) (λ e. two (eqb-true size 2 e)) (either_true (eqb size 1) (eqb size 2) h))
      (λ h. ⊎_elim (λ e. four (eqb-true size 4 e)) (λ e. eight (eqb-true size 8 e)) (either_true (eqb size 4) (eqb size 8) h))
      (either_true (either (eqb size 1) (eqb size 2)) (either (eqb size 4) (eqb size 8)) is)

  pub at-most_eight : size ≤ 8
  at-most_eight = by_size (λ e. omega arith) (λ e. omega arith) (λ e. omega arith) (λ e. omega arith)

  -- what is none of the first three is the last
  pub is_eight : (size ≡ 1 → ⊥) → (size ≡ 2 → ⊥) → (size ≡ 4 → ⊥) → size ≡ 8
  is_eight one two four = by_size (λ e. absurd (one e)) (λ e. absurd (two e)) (λ e. absurd (four e)) (λ e. e)

  -- every element of a buffer lies within 32,768 bytes
  pub within : (i : ℕ) → i < 4096 → i * size + size ≤ 32768
  within i h =
      let m : suc i * size ≤ 4096 * 8 = mul-le-mul h at-most_eight in
      let e : suc i * size ≡ i * size + size = suc-mul i size in
      omega arith
