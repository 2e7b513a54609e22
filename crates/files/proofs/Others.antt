-- The search for a bad block that leaves one block out: what it tells of the search that leaves none out, and of the
-- answer to the file.
-- Assumes nothing.
use Rattle.std.specs.Prelude.{Ok, Err}
use Rattle.std.proofs.Common.{◌≡◌, ℕ, ◌<◌, ◌≤◌, Bool, true, false, eqb, List, [], ◌∷◌, length, sym, refl, ap, ◌∙◌, arith, ne_eqb}
use native.Mathlib.Decide.{ℕ_discrete}
use Rattle.lists.specs.Pick.{either}
use Rattle.lists.specs.Search.{first_bad}
use Rattle.lists.proofs.Tests.{false-true}
use Rattle.lists.proofs.Search.{first_only, first_le, first-before, first-at}
use Rattle.contents.specs.declared.FileRefusal.TheVariants.{Runs}
use Rattle.contents.specs.Answers.{file_answer}
use Rattle.contents.specs.Contents.{count, contents_tests}
use Rattle.contents.proofs.Answers.{stopped, in_front-done}
use Rattle.files.specs.Files.{bad_runs, runs_tests}
use Rattle.files.proofs.Files.{good_in, no_bad_runs}

-- This is the lowest number below n, other than b, whose test fails, and n where there is none.
abbrev others : (n b : ℕ) (test : ℕ → Bool) → ℕ
others n b test = first_bad n (λ i. either (eqb i b) (test i))

either-false : (s t : Bool) → either s t ≡ false → t ≡ false
either-false true t e = absurd (false-true (sym e))
either-false false t e = e

module _ (n b : ℕ) (test : ℕ → Bool) where
  before_others : (i : ℕ) → (i ≡ b → ⊥) → i < others n b test → test i ≡ true
  before_others i other h =
      sym (ap (λ t. either t (test i)) (ne_eqb i b other)) ∙ first-before n (λ i. either (eqb i b) (test i)) i h

  -- Where b is not behind the lowest of the others and fails its test, it is the lowest of all.
  pub first-left-out : b ≤ others n b test → b < n → test b ≡ false → b ≡ first_bad n test
  first-left-out low h bad = first_only n b test (omega arith) (λ i k. before_others i (λ e. omega arith) (omega arith)) (λ _. bad)

  -- Where b is behind the lowest of the others or passes its test, leaving it out changes nothing.
  pub first_others : (b < others n b test → test b ≡ true) → others n b test ≡ first_bad n test
  first_others good =
      first_only n (others n b test) test (first_le n (λ i. either (eqb i b) (test i))) before
      (λ h. either-false (eqb (others n b test) b) (test (others n b test)) (first-at n (λ i. either (eqb i b) (test i)) h))
    where
      before : (i : ℕ) → i < others n b test → test i ≡ true
      before i h =
          elim (ℕ_discrete i b) [
            | yes e ↦ ap test e ∙ good (omega arith)
            | no e ↦ before_others i e h
          ]

-- This is the lowest block other than b that has a run index out of range, and the count where there is none.
abbrev pub bad_but : (l : List ℕ) (b : ℕ) → ℕ
bad_but l b = others (count l) b (good_in l)

-- Where every block is good, so is every other one.
pub none_but : (l : List ℕ) (b : ℕ) → ((i : ℕ) → i < count l → good_in l i ≡ true) → bad_but l b ≡ count l
none_but l b all =
    sym (first_only (count l) (count l) (λ i. either (eqb i b) (good_in l i)) (omega arith)
    (λ i h. ap (either (eqb i b)) (all i h) ∙ either_true (eqb i b)) (λ h. absurd (omega arith)))
  where
    either_true : (s : Bool) → either s true ≡ true
    either_true true = refl
    either_true false = refl

pub but_le : (l : List ℕ) (b : ℕ) → bad_but l b ≤ count l
but_le l b = first_le (count l) (λ i. either (eqb i b) (good_in l i))

module _ (l : List ℕ) (right : file_answer (contents_tests l (length l)) ≡ Ok tt) where
  -- behind right contents the lowest bad block decides
  runs-at : (p : ℕ) → p ≡ bad_runs l → p < count l → file_answer (runs_tests l) ≡ Err (Runs p)
  runs-at p found h =
      in_front-done (contents_tests l (length l)) ((eqb (bad_runs l) (count l), Err (Runs (bad_runs l))) ∷ []) refl right
      ∙ stopped _ _ (ne_eqb (bad_runs l) (count l) (λ e. omega arith))
      ∙ ap (λ p. Err (Runs p)) (sym found)

  module _ (b bad : ℕ) (found : bad ≡ bad_but l b) where
    -- Of the other blocks the lowest bad one is reported, where block b is behind it or good;
    pub other_bad : bad < count l → (b < bad → good_in l b ≡ true) → file_answer (runs_tests l) ≡ Err (Runs bad)
    unfolding bad_runs
    other_bad h good = runs-at bad (found ∙ first_others (count l) b (good_in l) (λ k. good (omega arith))) h

    -- block b is, where it is bad and not behind that one;
    pub asked_bad : b ≤ bad → b < count l → good_in l b ≡ false → file_answer (runs_tests l) ≡ Err (Runs b)
    unfolding bad_runs
    asked_bad low h worse = runs-at b (first-left-out (count l) b (good_in l) (omega arith) h worse) h

  -- and where no block is bad, the file is right up to there.
  pub none_bad : (b : ℕ) → bad_but l b ≡ count l → (b < count l → good_in l b ≡ true) → file_answer (runs_tests l) ≡ Ok tt
  none_bad b none good =
      let found : first_bad (count l) (good_in l) ≡ count l = sym (first_others (count l) b (good_in l) (λ h. good (omega arith))) ∙ none in
      in_front-done (contents_tests l (length l)) ((eqb (bad_runs l) (count l), Err (Runs (bad_runs l))) ∷ []) refl right
      ∙ no_bad_runs l (λ k h. first-before (count l) (good_in l) k (omega arith))
