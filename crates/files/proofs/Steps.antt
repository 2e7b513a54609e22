-- The check of the whole file is what its steps give: the contents against the file's length, one body against its
-- entry, and in edition 2 the range of one block against its entry. A program that makes these steps itself, with no
-- more of the file in hand than the contents and one body, so gets the same answer. And a refused block out leaves its
-- output as it was.
-- Assumes nothing.
use Rattle.std.specs.Prelude.{Ok, Err}
use Rattle.std.proofs.Common.{◌≡◌, ℕ, Bool, true, false, eqb, List, [], ◌∷◌, length, sym, refl, ap, ◌∙◌, eqb-true}
use borrow.Author.Tests.{eqb-false}
use Rattle.lists.specs.Tests.{unless}
use Rattle.lists.specs.Search.{first_bad}
use Rattle.lists.proofs.Search.{first_ext}
use Rattle.contents.specs.declared.FileRefusal.TheVariants.{Runs, Range}
use Rattle.contents.specs.Answers.{FileAnswer, FileTest, file_answer, number_of, is_done}
use Rattle.contents.specs.Contents.{count, entry_of, contents_tests}
use Rattle.contents.proofs.Answers.{in_front-done, in_front-refused, number-done, left-refused}
use Rattle.bodies.specs.Bodies.{has_good_runs, body_tests}
use Rattle.files.specs.Files.{body_of, block_in, bad_runs, bad_range, file_tests, block_out_tests, block_out_leaves}
use Rattle.files.proofs.Files.{body-tested, tested-done}

-- This is the lowest block whose body the second step refuses, and the count where there is none.
abbrev pub bad_body : List ℕ → ℕ
bad_body l = first_bad (count l) (λ i. is_done (file_answer (body_tests (entry_of l i) (body_of l i))))

-- What the bodies give: 13 with the lowest that the second step refuses, where there is one, and else 15 with the
-- lowest block whose range the third finds to be another one.
abbrev by_bodies : (bad other n : ℕ) → FileAnswer
by_bodies bad other n = unless (eqb bad n) (Err (Runs bad)) (unless (eqb other n) (Err (Range other)) (Ok tt))

-- The answer by the steps: a refusal of the first, and else what the bodies give.
abbrev pub by_steps : List ℕ → FileAnswer
by_steps l =
    unless (is_done (file_answer (contents_tests l (length l)))) (file_answer (contents_tests l (length l)))
    (by_bodies (bad_body l) (bad_range l) (count l))

module _ (l : List ℕ) where
  -- behind right contents the second step is refused exactly where a run index is out of range
  same_bad : file_answer (contents_tests l (length l)) ≡ Ok tt → bad_runs l ≡ bad_body l
  unfolding bad_runs
  same_bad done =
      first_ext (count l) (λ i. has_good_runs (entry_of l i) (body_of l i)) (λ i. is_done (file_answer (body_tests (entry_of l i) (body_of l i))))
      (λ i h. sym (ap is_done (body-tested l done i h) ∙ tested-done (has_good_runs (entry_of l i) (body_of l i))))

  bodies-answer : (bad other n : ℕ) → file_answer ((eqb bad n, Err (Runs bad)) ∷ (eqb other n, Err (Range other)) ∷ []) ≡ by_bodies bad other n
  unfolding file_answer
  bodies-answer bad other n = refl

  pub file-steps : file_answer (file_tests l) ≡ by_steps l
  file-steps = go (is_done (file_answer (contents_tests l (length l)))) refl
    where
      last : List FileTest
      last = (eqb (bad_runs l) (count l), Err (Runs (bad_runs l))) ∷ (eqb (bad_range l) (count l), Err (Range (bad_range l))) ∷ []

      go : (t : Bool) → is_done (file_answer (contents_tests l (length l))) ≡ t
          → file_answer (file_tests l) ≡ unless t (file_answer (contents_tests l (length l))) (by_bodies (bad_body l) (bad_range l) (count l))
      go true e =
          let done = number-done (file_answer (contents_tests l (length l))) (eqb-true (number_of (file_answer (contents_tests l (length l)))) 0 e) in
          in_front-done (contents_tests l (length l)) last refl done
          ∙ bodies-answer (bad_runs l) (bad_range l) (count l)
          ∙ ap (λ b. by_bodies b (bad_range l) (count l)) (same_bad done)
      go false e =
          in_front-refused (contents_tests l (length l)) last
          (λ d. eqb-false (number_of (file_answer (contents_tests l (length l)))) 0 e (ap number_of d))

  -- A refused block out leaves its output as it was.
  pub block_out-refused : (b : ℕ) (output : List ℕ) → (number_of (file_answer (block_out_tests l b output)) ≡ 0 → ⊥) → block_out_leaves l b output ≡ output
  unfolding block_out_leaves
  block_out-refused b output h = left-refused (file_answer (block_out_tests l b output)) (block_in l b) output h
