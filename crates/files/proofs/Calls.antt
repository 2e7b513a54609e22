-- What one block out answers by its tests, and what the lookup of a row answers by one block out.
-- Assumes nothing.
use Rattle.std.specs.Prelude.{Ok, Err}
use Rattle.std.proofs.Common.{◌≡◌, ℕ, ◌/◌, ◌%◌, ◌<◌, ◌≤◌, Bool, true, false, ltb, List, [], ◌∷◌, ◌++◌, length, replicate, sym, refl, ap, ◌∙◌, arith, le-ltb, lt-ltb, eq-eqb, ne_eqb}
use native.Mathlib.Decide.{dec_lt}
use Rattle.lists.specs.Tests.{unless}
use Rattle.lists.specs.Pick.{pick}
use Rattle.contents.specs.declared.FileRefusal.{FileRefusal}
use Rattle.contents.specs.declared.FileRefusal.TheVariants.{Block, Beyond, Runs}
use Rattle.contents.specs.Answers.{FileAnswer, FileTest, file_answer, number_of, left, giving}
use Rattle.contents.specs.Contents.{count, entry_of, entry_or, is_laid_out, contents_tests}
use Rattle.contents.proofs.Accepted.{whole_laid, done-front}
use Rattle.contents.proofs.Answers.{passed, stopped, none_left, in_front-done, in_front-refused, refusal_numbered}
use Rattle.files.specs.Files.{row_count, row_at, block_in, bad_range, file_tests, block_out_tests, block_out_leaves, row_tests}
use Rattle.files.specs.Rows.{given, row_of}
use Rattle.bodywise.proofs.Told.{whole, entry_read}
use Rattle.files.proofs.Files.{good_in, left_picked}
use Rattle.files.proofs.Others.{bad_but, asked_bad, none_bad}
use Rattle.files.proofs.Ranges.{file-refused, file_ranges, ranges_done}

-- Two tests that answer alike do so behind the same tests.
last_same : (xs : List FileTest) (x y : FileTest) → file_answer (x ∷ []) ≡ file_answer (y ∷ []) → file_answer (xs ++ (x ∷ [])) ≡ file_answer (xs ++ (y ∷ []))
unfolding file_answer
last_same [] x y e = e
last_same (z ∷ xs) x y e = ap (unless z.0 z.1) (last_same xs x y e)

number_passed : (n m : ℕ) → file_answer ((ltb n m, Err Beyond) ∷ []) ≡ Ok tt → n < m
number_passed n m e =
    elim (dec_lt n m) [
      | yes h ↦ h
      | no h ↦ absurd (omega (arith, ap number_of (sym (stopped _ [] (le-ltb n m (omega arith))) ∙ e)))
    ]

-- One block out tests its output first, then makes the tests of the file, and tests the number of the block last.
module _ (l : List ℕ) (b : ℕ) (output : List ℕ) where
  pub bad_output : (length output ≡ 1024 → ⊥) → file_answer (block_out_tests l b output) ≡ Err Block
  bad_output h = stopped _ _ (ne_eqb (length output) 1024 h)

  module _ (e : length output ≡ 1024) where
    pub block_refused : {r : FileRefusal} → Err r ≡ file_answer (file_tests l) → file_answer (block_out_tests l b output) ≡ Err r
    block_refused refused =
        passed _ _ (eq-eqb (length output) 1024 e)
        ∙ in_front-refused (file_tests l) _ (λ d. refusal_numbered _ (ap number_of (refused ∙ d)))
        ∙ sym refused

    module _ (done : file_answer (file_tests l) ≡ Ok tt) where
      number-left : file_answer (block_out_tests l b output) ≡ file_answer ((ltb b (count l), Err Beyond) ∷ [])
      number-left = passed _ _ (eq-eqb (length output) 1024 e) ∙ in_front-done (file_tests l) _ refl done

      pub block_beyond : count l ≤ b → file_answer (block_out_tests l b output) ≡ Err Beyond
      block_beyond h = number-left ∙ stopped _ _ (le-ltb b (count l) h)

      pub block_done : b < count l → file_answer (block_out_tests l b output) ≡ Ok tt
      block_done h = number-left ∙ passed _ _ (lt-ltb b (count l) h) ∙ none_left

module _ (l : List ℕ) where
  -- Where the contents are right, every other block is good and every range the true one, block b decides.
  module _ (b : ℕ) (right : file_answer (contents_tests l (length l)) ≡ Ok tt) (others : bad_but l b ≡ count l) (ranges : bad_range l ≡ count l) where
    pub file-done : (b < count l → good_in l b ≡ true) → file_answer (file_tests l) ≡ Ok tt
    file-done good = file_ranges l (none_bad l right b others good) ∙ ranges_done l ranges

    module _ (output : List ℕ) (e : length output ≡ 1024) (h : b < count l) where
      pub block_decides : file_answer (block_out_tests l b output) ≡ pick (good_in l b) (Ok tt) (Err (Runs b))
      block_decides = go (good_in l b) refl
        where
          go : (t : Bool) → good_in l b ≡ t → file_answer (block_out_tests l b output) ≡ pick t (Ok tt) (Err (Runs b))
          go true g = block_done l b output e (file-done (λ _. g)) h
          go false g =
              let runs = asked_bad l right b (count l) (sym others) (omega arith) h g in
              block_refused l b output e (sym (file-refused l (λ z. refusal_numbered (Runs b) (sym (ap number_of runs) ∙ z)) ∙ runs))

      pub block_leaves_lem : block_out_leaves l b output ≡ pick (good_in l b) (block_in l b) output
      unfolding block_out_leaves
      block_leaves_lem = ap (λ a. left a (block_in l b) output) block_decides ∙ left_picked (good_in l b) b (block_in l b) output

  module _ (p : ℕ) where
    -- what a row gives, by its answer
    row_is : (a : FileAnswer) → file_answer (row_tests l p) ≡ a
        → row_of l p ≡ giving a (given (entry_of l (p / 1024)) (p % 1024) (row_at l p))
    unfolding row_of
    row_is a e = ap (λ a. giving a (given (entry_of l (p / 1024)) (p % 1024) (row_at l p))) e

    same_number : file_answer ((ltb p (row_count l), Err Beyond) ∷ []) ≡ file_answer ((ltb (p / 1024) (count l), Err Beyond) ∷ [])
    same_number =
        elim (dec_lt (p / 1024) (count l)) [
          | yes h ↦ passed _ _ (lt-ltb p (row_count l) (omega arith)) ∙ sym (passed _ _ (lt-ltb (p / 1024) (count l) h))
          | no h ↦ stopped _ _ (le-ltb p (row_count l) (omega arith)) ∙ sym (stopped _ _ (le-ltb (p / 1024) (count l) (omega arith)))
        ]

    -- The lookup of row p is answered as one block out of block p / 1,024 is.
    pub row-as_block : (output : List ℕ) → length output ≡ 1024 → file_answer (row_tests l p) ≡ file_answer (block_out_tests l (p / 1024) output)
    row-as_block output e =
        last_same (file_tests l) ((ltb p (row_count l), Err Beyond)) ((ltb (p / 1024) (count l), Err Beyond)) same_number
        ∙ sym (passed _ _ (eq-eqb (length output) 1024 e))

    -- Where the contents are right, every other block is good and every range the true one, the row's block decides.
    pub row_decides : (right : file_answer (contents_tests l (length l)) ≡ Ok tt) (others : bad_but l (p / 1024) ≡ count l) (ranges : bad_range l ≡ count l)
        → p / 1024 < count l
        → row_of l p ≡ pick (good_in l (p / 1024)) (Ok (given (entry_of l (p / 1024)) (p % 1024) (row_at l p))) (Err (Runs (p / 1024)))
    row_decides right others ranges h =
        let zeros = replicate {A = ℕ} 1024 0 in
        row_is (pick (good_in l (p / 1024)) (Ok tt) (Err (Runs (p / 1024)))) (row-as_block zeros refl ∙ block_decides (p / 1024) right others ranges zeros refl h)
        ∙ go (good_in l (p / 1024))
      where
        go : (t : Bool)
            → giving (pick t (Ok tt) (Err (Runs (p / 1024)))) (given (entry_of l (p / 1024)) (p % 1024) (row_at l p))
            ≡ pick t (Ok (given (entry_of l (p / 1024)) (p % 1024) (row_at l p))) (Err (Runs (p / 1024)))
        go true = refl
        go false = refl

    pub row-refused : (r : FileRefusal) → file_answer (row_tests l p) ≡ Err r → row_of l p ≡ Err r
    row-refused r e = row_is (Err r) e

    -- Where the lookup is done the contents are right and the row's block is there, so its entry is read, and is as
    -- laid out.
    module _ (e : file_answer (row_tests l p) ≡ Ok tt) where
      right : file_answer (contents_tests l (length l)) ≡ Ok tt
      right = (done-front (contents_tests l (length l)) _ refl (done-front (file_tests l) ((ltb p (row_count l), Err Beyond) ∷ []) refl e).0).0

      there : p / 1024 < count l
      there = let h = number_passed p (row_count l) (done-front (file_tests l) ((ltb p (row_count l), Err Beyond) ∷ []) refl e).1 in omega arith

      pub row-entry : entry_or l (p / 1024) ≡ entry_of l (p / 1024)
      row-entry = entry_read l right (p / 1024) there

      pub row_laid : is_laid_out (entry_of l (p / 1024)) ≡ true
      row_laid = whole_laid (whole l right) (p / 1024) there

    pub row_done : file_answer (row_tests l p) ≡ Ok tt → row_of l p ≡ Ok (given (entry_of l (p / 1024)) (p % 1024) (row_at l p))
    row_done e = row_is (Ok tt) e
