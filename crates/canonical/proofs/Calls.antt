-- What the check answers by its tests.
-- Assumes nothing.
use mathlib.Core.Bool.{Bool, true, false}
use mathlib.Core.List.{List, [], ◌∷◌}
use mathlib.Core.Logic.{◌≢◌}
use mathlib.Core.Path.{◌≡◌, refl, sym, ap, ◌∙◌}
use Prim.Native.Nat.{ℕ, ◌+◌, ◌≤◌, ◌<◌}
use native.Mathlib.Decide.{dec_lt}
use native.Mathlib.Omega.{arith}
use borrow.Author.Tests.{eq-eqb, ne_eqb, eqb-true, eqb-false}
use lib.Dec.{eqb}
use Rattle.std.specs.Prelude.{Ok, Err}
use Rattle.lists.specs.Pick.{pick}
use Rattle.lists.proofs.Search.{first_only}
use Rattle.contents.specs.declared.FileRefusal.TheVariants.{Edition, Range, Foreign}
use Rattle.contents.specs.Answers.{file_answer, number_of}
use Rattle.contents.specs.Contents.{edition, count, edition_or}
use Rattle.contents.proofs.Answers.{passed, stopped, none_left, in_front-done, in_front-refused}
use Rattle.files.specs.Files.{bad_range, runs_tests, file_tests}
use Rattle.bodywise.proofs.Told.{edition-read}
use Rattle.files.proofs.Ranges.{contents-right, file_ranges, ranges_done, other_ranges}
use Rattle.canonical.specs.Canonical.{is_ours, foreign, canonical_tests}

module _ (l : List ℕ) where
  -- Where the reader refuses the file, that is its answer; else the edition decides, and then what the walk finds.
  pub not-read : (file_answer (file_tests l) ≡ Ok tt → ⊥) → file_answer (canonical_tests l) ≡ file_answer (file_tests l)
  not-read refused = in_front-refused (file_tests l) _ refused

  pub not_second : file_answer (file_tests l) ≡ Ok tt → edition l ≢ 2 → file_answer (canonical_tests l) ≡ Err Edition
  not_second done other = in_front-done (file_tests l) _ refl done ∙ stopped _ _ (ne_eqb (edition l) 2 other)

  -- The same by the tests up to the run indices, where the ranges are still to be tested.
  pub not_begun : (number_of (file_answer (runs_tests l)) ≡ 0 → ⊥) → file_answer (canonical_tests l) ≡ file_answer (runs_tests l)
  not_begun refused = in_front-refused (runs_tests l) _ (λ d. refused (ap number_of d))

  module _ (runs : file_answer (runs_tests l) ≡ Ok tt) where
    pub first-refused : (edition_or l ≡ 2 → ⊥) → file_answer (canonical_tests l) ≡ Err Edition
    first-refused other =
        let right = contents-right l runs in
        not_second (file_ranges l runs ∙ ranges_done l (other_ranges l other right)) (λ e. other (edition-read l right ∙ e))

    -- In edition 2 the ranges decide, and then what is found of the blocks.
    pub second_left : edition l ≡ 2
        → file_answer (canonical_tests l) ≡ file_answer ((eqb (bad_range l) (count l), Err (Range (bad_range l))) ∷ (eqb (foreign l) (count l), Err (Foreign (foreign l))) ∷ [])
    second_left second = in_front-done (runs_tests l) _ refl runs ∙ go (eqb (bad_range l) (count l)) refl
      where
        go : (t : Bool) → eqb (bad_range l) (count l) ≡ t
            → file_answer ((eqb (bad_range l) (count l), Err (Range (bad_range l))) ∷ (eqb (edition l) 2, Err Edition) ∷ (eqb (foreign l) (count l), Err (Foreign (foreign l))) ∷ [])
            ≡ file_answer ((eqb (bad_range l) (count l), Err (Range (bad_range l))) ∷ (eqb (foreign l) (count l), Err (Foreign (foreign l))) ∷ [])
        go true e = passed _ _ e ∙ passed _ _ (eq-eqb (edition l) 2 second) ∙ sym (passed _ _ e)
        go false e = stopped _ _ e ∙ sym (stopped _ _ e)

  -- What the walk over the blocks answers.
  pub false-range : (p : ℕ) → p ≡ bad_range l → p < count l
      → Err (Range p) ≡ file_answer ((eqb (bad_range l) (count l), Err (Range (bad_range l))) ∷ (eqb (foreign l) (count l), Err (Foreign (foreign l))) ∷ [])
  false-range p found h = sym (stopped _ _ (ne_eqb (bad_range l) (count l) (λ e. absurd (omega arith))) ∙ ap (λ p. Err (Range p)) (sym found))

  module _ (ranged : bad_range l ≡ count l) where
    pub all_ours : foreign l ≡ count l → Ok tt ≡ file_answer ((eqb (bad_range l) (count l), Err (Range (bad_range l))) ∷ (eqb (foreign l) (count l), Err (Foreign (foreign l))) ∷ [])
    all_ours none = sym (passed _ _ (eq-eqb (bad_range l) (count l) ranged) ∙ passed _ _ (eq-eqb (foreign l) (count l) none) ∙ none_left)

    pub one-foreign : (p : ℕ) → p ≡ foreign l → (p ≡ count l → ⊥)
        → Err (Foreign p) ≡ file_answer ((eqb (bad_range l) (count l), Err (Range (bad_range l))) ∷ (eqb (foreign l) (count l), Err (Foreign (foreign l))) ∷ [])
    one-foreign p found some =
        sym (passed _ _ (eq-eqb (bad_range l) (count l) ranged) ∙ stopped _ _ (ne_eqb (foreign l) (count l) (λ e. some (found ∙ e))) ∙ ap (λ p. Err (Foreign p)) (sym found))

  module _ (done : file_answer (file_tests l) ≡ Ok tt) (second : edition l ≡ 2) where
    blocks_left : file_answer (canonical_tests l) ≡ file_answer ((eqb (foreign l) (count l), Err (Foreign (foreign l))) ∷ [])
    blocks_left = in_front-done (file_tests l) _ refl done ∙ passed _ _ (eq-eqb (edition l) 2 second)

    pub is-foreign : (p : ℕ) → p ≡ foreign l → p < count l → file_answer (canonical_tests l) ≡ Err (Foreign p)
    is-foreign p e h = blocks_left ∙ stopped _ _ (ne_eqb (foreign l) (count l) (λ f. absurd (omega arith))) ∙ ap (λ p. Err (Foreign p)) (sym e)

    pub none-foreign : foreign l ≡ count l → file_answer (canonical_tests l) ≡ Ok tt
    none-foreign e = blocks_left ∙ passed _ _ (eq-eqb (foreign l) (count l) e) ∙ none_left

-- What the walk keeps of the lowest block that is not the writer's: before any is found it is the count n.
pub record Lowest (l : List ℕ) (n lowest number : ℕ) : Type 0 where
  pub most : lowest ≤ n
  pub before : (k : ℕ) → k < number → k < lowest → is_ours l k ≡ true
  pub at : lowest < n → (lowest < number) × (is_ours l lowest ≡ false)

pub lowest-none : {l : List ℕ} {n number : ℕ} → number ≡ 0 → Lowest l n n number
lowest-none e = record { most = omega arith; before = λ k h. absurd (omega arith); at = λ h. absurd (omega arith) }

module _ {l : List ℕ} {n lowest number next : ℕ} (low : Lowest l n lowest number) (more : number < n) (one : next ≡ number + 1) where
  -- a block that is the writer's, or a lower one was found that is not
  pub lowest_kept : (lowest ≡ n → is_ours l number ≡ true) → Lowest l n lowest next
  lowest_kept ours = record {
    most = low.most;
    before = λ k h b.
        elim (dec_lt k number) [
          | yes first ↦ low.before k first b
          | no last ↦
              let here : k ≡ number = omega arith in
              let none : lowest ≡ n =
              elim (dec_lt lowest n) [ yes some ↦ absurd (omega (arith, (low.at some).0)) | no none ↦ omega (arith, low.most) ] in
              ap (is_ours l) here ∙ ours none
        ];
    at = λ h. (omega (arith, (low.at h).0), (low.at h).1);
  }

  -- the first that is not
  pub lowest-found : lowest ≡ n → is_ours l number ≡ false → Lowest l n number next
  lowest-found none bad = record { most = omega arith; before = λ k h b. low.before k b (omega arith); at = λ h. (omega arith, bad) }

-- By whether the block is the writer's, and whether one was found before.
pub lowest-next : {l : List ℕ} {n lowest number next : ℕ} → Lowest l n lowest number → number < n → next ≡ number + 1 → (ours : Bool) → ours ≡ is_ours l number
    → Lowest l n (pick ours lowest (pick (eqb lowest n) number lowest)) next
lowest-next low more one true is = lowest_kept low more one (λ _. sym is)
lowest-next {l} {n} {lowest} {number} {next} low more one false is = go (eqb lowest n) refl
  where
    go : (t : Bool) → eqb lowest n ≡ t → Lowest l n (pick t number lowest) next
    go true e = lowest-found low more one (eqb-true lowest n e) (sym is)
    go false e = lowest_kept low more one (λ none. absurd (eqb-false lowest n e none))

-- Behind the last block it is the lowest of all.
pub lowest_all : {l : List ℕ} {n lowest number : ℕ} → Lowest l n lowest number → n ≡ count l → number ≡ n → lowest ≡ foreign l
unfolding foreign
lowest_all {l} {n} {lowest} low e all =
    first_only (count l) lowest (is_ours l) (omega (arith, low.most)) (λ k h. low.before k (omega (arith, low.most)) h) (λ h. (low.at (omega arith)).1)
