-- The answer after all bodies of a file is the answer to the whole file, and the answer after those that are chosen is
-- that of the tests of their blocks. The tests ask the run indices of all blocks first and then the ranges of all, and
-- the bodies come one after another: that is the same, since no file has both a run index out of range and a range that
-- is not the true one.
-- Assumes nothing.
use Rattle.std.specs.Prelude.{Ok, Err}
use Rattle.std.proofs.Common.{◌≡◌, ℕ, zero, suc, ◌<◌, ◌≤◌, Bool, true, false, eqb, List, [], ◌∷◌, length, sym, refl, ap, ◌∙◌, subst, ap₂, arith, eq-eqb, ne_eqb}
use native.Mathlib.Decide.{dec_le, ℕ_discrete}
use Rattle.lists.specs.Pick.{pick}
use Rattle.lists.specs.Search.{first_bad}
use Rattle.lists.proofs.Tests.{false-true}
use Rattle.lists.proofs.Search.{first_only}
use Rattle.contents.specs.declared.FileRefusal.TheVariants.{Runs, Range}
use Rattle.contents.specs.Answers.{FileAnswer, file_answer, number_of, left}
use Rattle.contents.specs.Contents.{edition, count, entry_or, range_of, contents_tests}
use Rattle.contents.proofs.Answers.{passed, stopped, none_left, in_front-done, in_front-refused, number-done}
use Rattle.bodies.specs.Bodies as Bodies
use Rattle.bodies.specs.Bodies.{block_of}
use Rattle.bodies.specs.Ranges.{is_range}
use Rattle.files.specs.Chosen.{chosen_after}
use Rattle.files.specs.Files as Files
use Rattle.files.specs.Files.{body_of, block_in, bad_runs, bad_range, file_tests}
use Rattle.files.proofs.Files.{good_in, body-tested, second_good}
use Rattle.files.proofs.Ranges.{contents-right, runs-good, file-runs, ranges_true}
use Rattle.bodywise.specs.InnerPlaced.{in_block}
use Rattle.bodywise.specs.Steps.{has_true_range, body_tests, held_tests, held_leaves, range_tests, step_of, front_of, answer_after}
use Rattle.bodywise.proofs.Fronts.{Front, front-right}
use Rattle.bodywise.proofs.Steps.{body_placed, step_settled, step-body, step_range, range-answer}

-- A test that is made only where it is chosen: what passes, passes, and what fails was chosen and fails.
picked_true : (s : Bool) {t : Bool} → t ≡ true → pick s t true ≡ true
picked_true true e = e
picked_true false e = refl

picked_false : (s : Bool) {t : Bool} → pick s t true ≡ false → t ≡ false
picked_false true e = e
picked_false false e = absurd (false-true (sym e))

-- What changes nothing where it is chosen changes nothing.
picked_same : (s : Bool) {a b : FileAnswer} → a ≡ b → pick s a b ≡ b
picked_same true e = e
picked_same false e = refl

-- ---- one body, behind contents that are right

module _ (l front : List ℕ) (held : Front l front) (done : file_answer (contents_tests l (length l)) ≡ Ok tt) where
  -- No file has both: a range that is not the true one is of edition 2, in which no block has run indices.
  range_second : (p : ℕ) → Files.has_true_range l p ≡ false → edition l ≡ 2
  unfolding Files.has_true_range
  range_second p e =
      elim (ℕ_discrete (edition l) 2) [
        | yes second ↦ second
        | no other ↦ absurd (false-true (sym e ∙ ap (λ t. pick t (is_range (range_of l p) (block_in l p)) true) (ne_eqb (edition l) 2 other)))
      ]

  module _ (n : ℕ) (h : n < count l) where
    body-answer : {t : Bool} → good_in l n ≡ t → file_answer (body_tests front n (body_of l n)) ≡ pick t (Ok tt) (Err (Runs n))
    body-answer {t} e =
        sym (body_placed front n (body_of l n) (held.right_is done n h))
        ∙ ap (in_block n)
        (ap (λ e. file_answer (Bodies.body_tests e (body_of l n))) (held.entry-is done n h)
        ∙ body-tested l done n h
        ∙ ap (λ t. pick t (Ok tt) (Err (Runs 0))) e)
        ∙ go t
      where
        go : (t : Bool) → in_block n (pick t (Ok tt) (Err (Runs 0))) ≡ pick t (Ok tt) (Err (Runs n))
        go true = refl
        go false = refl

    pub block_is : block_of (entry_or front n) (body_of l n) ≡ block_in l n
    unfolding block_in
    block_is = ap (λ e. block_of e (body_of l n)) (held.entry-is done n h)

    range-is : has_true_range front n (block_in l n) ≡ Files.has_true_range l n
    unfolding has_true_range Files.has_true_range
    range-is = ap₂ (λ e r. pick (eqb e 2) (is_range r (block_in l n)) true) (held.edition-is done) (held.range-is done n h)

    block_range : {t : Bool} → Files.has_true_range l n ≡ t → file_answer (range_tests front n (block_in l n)) ≡ pick t (Ok tt) (Err (Range n))
    block_range e = range-answer front n (block_in l n) (held.right_is done n h) (range-is ∙ e)

    step_bad : good_in l n ≡ false → step_of (Ok tt) front n (body_of l n) ≡ Err (Runs n)
    step_bad g =
        let answer = body-answer g in
        step-body front n (body_of l n) (Ok tt) refl (λ d. let w : ◌≡◌ {A = ℕ} 13 0 = ap number_of (sym answer ∙ d) in omega arith) ∙ answer

    step_ranged : good_in l n ≡ true → {t : Bool} → Files.has_true_range l n ≡ t → step_of (Ok tt) front n (body_of l n) ≡ pick t (Ok tt) (Err (Range n))
    step_ranged g e =
        step_range front n (body_of l n) (Ok tt) refl (body-answer g) ∙ ap (λ b. file_answer (range_tests front n b)) block_is ∙ block_range e

-- ---- the bodies that are chosen

module _ (l front : List ℕ) (held : Front l front) (which : ℕ → Bool) where
  abbrev after : ℕ → FileAnswer
  after n = chosen_after which front (length l) (body_of l) n

  -- The tests of the blocks that are chosen.
  abbrev good : ℕ → Bool
  good i = pick (which i) (good_in l i) true

  abbrev ranged : ℕ → Bool
  ranged i = pick (which i) (Files.has_true_range l i) true

  -- A refusal of the contents stays.
  pub chosen-refused : (file_answer (contents_tests l (length l)) ≡ Ok tt → ⊥) → (n : ℕ) → after n ≡ file_answer (contents_tests l (length l))
  unfolding chosen_after
  chosen-refused refused zero = held.answer
  chosen-refused refused (suc n) =
      let before = chosen-refused refused n in
      picked_same (which n) (step_settled front n (body_of l n) (after n) (λ z. refused (sym before ∙ number-done (after n) z))) ∙ before

  module _ (done : file_answer (contents_tests l (length l)) ≡ Ok tt) where
    -- What the answer after n bodies is, by what these bodies are.
    data Far (n : ℕ) : FileAnswer → Type 0 where
      some_runs : (p : ℕ) → p < n → good p ≡ false → ((i : ℕ) → i < p → good i ≡ true) → Far n (Err (Runs p))
      some_range : (p : ℕ) → p < n → ranged p ≡ false → ((i : ℕ) → i < p → ranged i ≡ true) → Far n (Err (Range p))
      all_right : ((i : ℕ) → i < n → good i ≡ true) → ((i : ℕ) → i < n → ranged i ≡ true) → Far n (Ok tt)

    module _ (n : ℕ) (h : n < count l) where
      -- all below n, and n itself
      one_more : {test : ℕ → Bool} → ((i : ℕ) → i < n → test i ≡ true) → test n ≡ true → (i : ℕ) → i < suc n → test i ≡ true
      one_more {test} before last i b =
          elim (dec_le n i) [
            | yes e ↦ let z : i ≡ n = omega arith in ap test z ∙ last
            | no e ↦ before i (omega arith)
          ]

      far_next : {a : FileAnswer} → Far n a → Far (suc n) (pick (which n) (step_of a front n (body_of l n)) a)
      far_next (some_runs p b g before) =
          subst (Far (suc n)) (sym (picked_same (which n) (step_settled front n (body_of l n) (Err (Runs p)) (λ z. let w : ◌≡◌ {A = ℕ} 13 0 = z in omega arith)))) (some_runs p (omega arith) g before)
      far_next (some_range p b t before) =
          subst (Far (suc n)) (sym (picked_same (which n) (step_settled front n (body_of l n) (Err (Range p)) (λ z. let w : ◌≡◌ {A = ℕ} 15 0 = z in omega arith)))) (some_range p (omega arith) t before)
      far_next (all_right goods ranges) = go (which n) (good_in l n) (Files.has_true_range l n) refl refl refl
        where
          -- a test of body n, where it is chosen
          tested : {w t : Bool} (x : Bool) → which n ≡ w → x ≡ t → pick (which n) x true ≡ pick w t true
          tested x c e = ap₂ (λ w t. pick w t true) c e

          stepped : {w : Bool} {a : FileAnswer} → which n ≡ w → step_of (Ok tt) front n (body_of l n) ≡ a
              → pick (which n) (step_of (Ok tt) front n (body_of l n)) (Ok tt) ≡ pick w a (Ok tt)
          stepped c e = ap₂ (λ w a. pick w a (Ok tt)) c e

          go : (w g t : Bool) → which n ≡ w → good_in l n ≡ g → Files.has_true_range l n ≡ t
              → Far (suc n) (pick (which n) (step_of (Ok tt) front n (body_of l n)) (Ok tt))
          go false g t c e f =
              subst (Far (suc n)) (sym (stepped c refl))
              (all_right (one_more goods (tested (good_in l n) c refl)) (one_more ranges (tested (Files.has_true_range l n) c refl)))
          go true false t c e f =
              subst (Far (suc n)) (sym (stepped c (step_bad l front held done n h e)))
              (some_runs n (omega arith) (tested (good_in l n) c e) goods)
          go true true true c e f =
              subst (Far (suc n)) (sym (stepped c (step_ranged l front held done n h e f)))
              (all_right (one_more goods (tested (good_in l n) c e)) (one_more ranges (tested (Files.has_true_range l n) c f)))
          go true true false c e f =
              subst (Far (suc n)) (sym (stepped c (step_ranged l front held done n h e f)))
              (some_range n (omega arith) (tested (Files.has_true_range l n) c f) ranges)

    far : (n : ℕ) → n ≤ count l → Far n (after n)
    unfolding chosen_after
    far zero h = subst (Far zero) (sym (held.answer ∙ done)) (all_right (λ i b. absurd (omega arith)) (λ i b. absurd (omega arith)))
    far (suc n) h = far_next n (omega arith) (far n (omega arith))

    -- what the tests of all run indices, and then of all ranges, say
    abbrev told : FileAnswer
    told = file_answer ((eqb (first_bad (count l) good) (count l), Err (Runs (first_bad (count l) good))) ∷ (eqb (first_bad (count l) ranged) (count l), Err (Range (first_bad (count l) ranged))) ∷ [])

    all_good : ((i : ℕ) → i < count l → good i ≡ true) → first_bad (count l) good ≡ count l
    all_good goods = sym (first_only (count l) (count l) good (omega arith) goods (λ b. absurd (omega arith)))

    far_all : {a : FileAnswer} → Far (count l) a → a ≡ told
    far_all (some_runs p b g before) =
        let found : p ≡ first_bad (count l) good = first_only (count l) p good (omega arith) before (λ _. g) in
        sym (stopped _ _ (ne_eqb (first_bad (count l) good) (count l) (λ e. omega arith)) ∙ ap (λ p. Err (Runs p)) (sym found))
    far_all (some_range p b t before) =
        let found : p ≡ first_bad (count l) ranged = first_only (count l) p ranged (omega arith) before (λ _. t) in
        let second = range_second l front held done p (picked_false (which p) t) in
        sym (passed _ _ (eq-eqb (first_bad (count l) good) (count l) (all_good (λ i h. picked_true (which i) (second_good l done second i h))))
        ∙ stopped _ _ (ne_eqb (first_bad (count l) ranged) (count l) (λ e. omega arith))
        ∙ ap (λ p. Err (Range p)) (sym found))
    far_all (all_right goods ranges) =
        let none : count l ≡ first_bad (count l) ranged = first_only (count l) (count l) ranged (omega arith) ranges (λ b. absurd (omega arith)) in
        sym (passed _ _ (eq-eqb (first_bad (count l) good) (count l) (all_good goods))
        ∙ passed _ _ (eq-eqb (first_bad (count l) ranged) (count l) (sym none))
        ∙ none_left)

    -- The answer after all bodies is that of the tests of the chosen blocks.
    pub chosen-bodies : after (count l) ≡ told
    chosen-bodies = far_all (far (count l) (omega arith))

-- ---- all bodies

-- Where every body is chosen, the answer is that of the check body by body.
all_chosen : (front : List ℕ) (size : ℕ) (bodies : ℕ → List ℕ) (n : ℕ) → answer_after front size bodies n ≡ chosen_after (λ _. true) front size bodies n
unfolding answer_after chosen_after
all_chosen front size bodies zero = refl
all_chosen front size bodies (suc n) = ap (λ a. step_of a front n (bodies n)) (all_chosen front size bodies n)

module _ (l front : List ℕ) (held : Front l front) where
  -- The answer after all bodies is the answer to the file.
  pub body_by_body : answer_after front (length l) (body_of l) (count l) ≡ file_answer (file_tests l)
  unfolding bad_runs bad_range
  body_by_body =
      all_chosen front (length l) (body_of l) (count l)
      ∙ elim (ℕ_discrete (number_of (file_answer (contents_tests l (length l)))) 0) [
        | yes z ↦ let done = number-done (file_answer (contents_tests l (length l))) z in
            chosen-bodies l front held (λ _. true) done ∙ sym (in_front-done (contents_tests l (length l)) _ refl done)
        | no n ↦ let refused : file_answer (contents_tests l (length l)) ≡ Ok tt → ⊥ = λ d. n (ap number_of d) in
            chosen-refused l front held (λ _. true) refused (count l) ∙ sym (in_front-refused (contents_tests l (length l)) _ refused)
      ]

  -- In a file that was accepted each block is laid down when its body is read again, and its range is the true one.
  module _ (accepted : file_answer (file_tests l) ≡ Ok tt) (i : ℕ) (h : i < count l) where
    right : file_answer (contents_tests l (length l)) ≡ Ok tt
    right = contents-right l (file-runs l accepted)

    pub again-answer : (output : List ℕ) → length output ≡ 1024 → file_answer (held_tests front i (body_of l i) output) ≡ Ok tt
    again-answer output e =
        passed _ _ (eq-eqb (length output) 1024 e) ∙ body-answer l front held right i h (runs-good l (file-runs l accepted) i h)

    pub again_block : (output : List ℕ) → length output ≡ 1024 → held_leaves front i (body_of l i) output ≡ block_in l i
    unfolding held_leaves
    again_block output e =
        ap (λ a. left a (block_of (entry_or front i) (body_of l i)) output) (again-answer output e) ∙ block_is l front held right i h

    pub again-range : file_answer (range_tests front i (block_in l i)) ≡ Ok tt
    again-range = block_range l front held right i h (ranges_true l accepted i h)

-- A program that reads the front of a file, and then each body, gets the answer to the whole file.
pub held-answer : (l : List ℕ) → answer_after (front_of l) (length l) (body_of l) (count l) ≡ file_answer (file_tests l)
held-answer l = body_by_body l (front_of l) (front-right l)
