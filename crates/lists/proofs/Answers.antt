-- What is given and left by an answer, for every type of answers: of a call that is done, which has number 0, and of
-- one that is refused. And a list of tests that all pass.
-- Assumes nothing.
use mathlib.Core.Bool.{Bool, true, false}
use mathlib.Core.List.{List, ◌∷◌}
use mathlib.Core.Path.{◌≡◌, refl, sym, ap, ◌∙◌}
use Prim.Native.Nat.{ℕ}
use native.Mathlib.Decide.{ℕ_discrete}
use lib.Dec.{eqb}
use borrow.Author.Tests.{eq-eqb, ne_eqb}
use Rattle.lists.specs.Pick.{pick}
use Rattle.lists.specs.Tests.{unless, Test, first_refusal}

module _ {A S : Type 0} (number_of : A → ℕ) where
  -- After every refusal, that is after every number but 0, a lent buffer holds what it held.
  pub left-refused : (a : A) (new old : S) → (number_of a ≡ 0 → ⊥) → pick (eqb (number_of a) 0) new old ≡ old
  left-refused a new old h = simp (ne_eqb (number_of a) 0 h)

  -- What is given by an answer: after a refusal what stands for the refusal, and where the call is done the other.
  module _ (given : S) (refused : A → S) (a b : A) (e : a ≡ b) where
    pub by_refusal : (number_of a ≡ 0 → ⊥) → refused a ≡ pick (eqb (number_of b) 0) given (refused b)
    by_refusal n = sym (ap (λ b. pick (eqb (number_of b) 0) given (refused b)) (sym e) ∙ simp (ne_eqb (number_of a) 0 n))

    pub by_done : number_of a ≡ 0 → given ≡ pick (eqb (number_of b) 0) given (refused b)
    by_done z = sym (ap (λ b. pick (eqb (number_of b) 0) given (refused b)) (sym e) ∙ simp (eq-eqb (number_of a) 0 z))

  -- What is read off it is the answer, where the one stands for an answer that is done and the other for the refusal.
  pub says_answer : (done : A) → ((a : A) → number_of a ≡ 0 → a ≡ done) → (given : S) (refused : A → S) (read : S → A)
      → read given ≡ done → ((a : A) → read (refused a) ≡ a) → (a : A) → read (pick (eqb (number_of a) 0) given (refused a)) ≡ a
  says_answer done only given refused read of-given of-refused a =
      elim (ℕ_discrete (number_of a) 0) [
        | yes zero ↦ ap (λ b. read (pick b given (refused a))) (eq-eqb (number_of a) 0 zero) ∙ of-given ∙ sym (only a zero)
        | no other ↦ ap (λ b. read (pick b given (refused a))) (ne_eqb (number_of a) 0 other) ∙ of-refused a
      ]

-- Where all tests of a list pass, the first one does, and so do the others, if its refusal is not what stands for a
-- call that is done.
pub first-passed : {A : Type 0} (done : A) (x : Test A) (xs : List (Test A)) → (x.1 ≡ done → ⊥)
    → first_refusal done (x ∷ xs) ≡ done → (x.0 ≡ true) × (first_refusal done xs ≡ done)
first-passed done x xs other e = go x.0 refl e
  where
    go : (b : Bool) → x.0 ≡ b → unless b x.1 (first_refusal done xs) ≡ done → (x.0 ≡ true) × (first_refusal done xs ≡ done)
    go true p e = (p, e)
    go false p e = absurd (other e)
