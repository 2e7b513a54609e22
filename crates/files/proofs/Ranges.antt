-- The test of the ranges, behind those up to the run indices: a file of another edition than 2 passes it, and where all
-- are passed every block is good.
-- Assumes nothing.
use Rattle.std.specs.Prelude.{Ok, Err}
use Rattle.std.proofs.Common.{◌≡◌, ℕ, ◌<◌, true, eqb, List, [], ◌∷◌, length, drop, sym, refl, ap, ◌∙◌, arith, eq-eqb, ne_eqb, eqb-true}
use Rattle.lists.specs.Numbers.{Elements}
use Rattle.lists.specs.Pick.{pick}
use Rattle.lists.specs.Ends.{Spans}
use Rattle.lists.proofs.Search.{first_only, first-before}
use Rattle.contents.specs.declared.FileRefusal.TheVariants.{Range, Runs}
use Rattle.contents.specs.Answers.{file_answer, number_of}
use Rattle.contents.specs.Contents.{edition, count, edition_or, entry_of, range_of, body_start, contents_tests}
use Rattle.contents.proofs.Accepted.{done_first, done-front}
use Rattle.contents.proofs.Answers.{passed, stopped, none_left, in_front-done, in_front-refused}
use Rattle.bodies.specs.Ranges.{is_range}
use Rattle.bodies.proofs.Blocks.{Block, a_block, take-elements, drop-elements}
use Rattle.bodies.proofs.Ranges.{range_spans}
use Rattle.files.specs.Files.{body_of, block_in, has_true_range, bad_runs, bad_range, file_tests, runs_tests}
use Rattle.bodywise.proofs.Told.{edition-read, body_laid}
use Rattle.files.proofs.Files.{good_in}

module _ (l : List ℕ) where
  -- contents that are right are right in front of whatever is tested behind them
  pub contents-right : file_answer (runs_tests l) ≡ Ok tt → file_answer (contents_tests l (length l)) ≡ Ok tt
  contents-right done = (done-front (contents_tests l (length l)) ((eqb (bad_runs l) (count l), Err (Runs (bad_runs l))) ∷ []) refl done).0

  -- Where the tests up to the run indices are passed, every block has its run indices in range.
  pub runs-good : file_answer (runs_tests l) ≡ Ok tt → (i : ℕ) → i < count l → good_in l i ≡ true
  unfolding bad_runs
  runs-good done i h =
      let last = (done-front (contents_tests l (length l)) ((eqb (bad_runs l) (count l), Err (Runs (bad_runs l))) ∷ []) refl done).1 in
      let all : bad_runs l ≡ count l = eqb-true (bad_runs l) (count l) (done_first _ _ refl last).0 in
      first-before (count l) (good_in l) i (omega arith)

  -- The tests of a file are those up to the run indices, and that of the ranges.
  pub file-runs : file_answer (file_tests l) ≡ Ok tt → file_answer (runs_tests l) ≡ Ok tt
  file-runs done = (done-front (runs_tests l) ((eqb (bad_range l) (count l), Err (Range (bad_range l))) ∷ []) refl done).0

  -- Where those up to the run indices refuse the file, that is its answer; where they do not, the ranges decide.
  pub file-refused : (number_of (file_answer (runs_tests l)) ≡ 0 → ⊥) → file_answer (file_tests l) ≡ file_answer (runs_tests l)
  file-refused refused = in_front-refused (runs_tests l) ((eqb (bad_range l) (count l), Err (Range (bad_range l))) ∷ []) (λ d. refused (ap number_of d))

  pub file_ranges : file_answer (runs_tests l) ≡ Ok tt → file_answer (file_tests l) ≡ file_answer ((eqb (bad_range l) (count l), Err (Range (bad_range l))) ∷ [])
  file_ranges done = in_front-done (runs_tests l) ((eqb (bad_range l) (count l), Err (Range (bad_range l))) ∷ []) refl done

  pub file-true : file_answer (file_tests l) ≡ Ok tt → bad_range l ≡ count l
  file-true done =
      let last = (done-front (runs_tests l) ((eqb (bad_range l) (count l), Err (Range (bad_range l))) ∷ []) refl done).1 in
      eqb-true (bad_range l) (count l) (done_first _ _ refl last).0

  pub ranges_done : bad_range l ≡ count l → file_answer ((eqb (bad_range l) (count l), Err (Range (bad_range l))) ∷ []) ≡ Ok tt
  ranges_done none = passed _ _ (eq-eqb (bad_range l) (count l) none) ∙ none_left

  pub range_at : (p : ℕ) → p ≡ bad_range l → (p ≡ count l → ⊥) → file_answer ((eqb (bad_range l) (count l), Err (Range (bad_range l))) ∷ []) ≡ Err (Range p)
  range_at p found some = stopped _ _ (ne_eqb (bad_range l) (count l) (λ e. some (found ∙ e))) ∙ ap (λ p. Err (Range p)) (sym found)

  -- A block of another edition than 2 has no range to test,
  no_ranges : (edition l ≡ 2 → ⊥) → bad_range l ≡ count l
  unfolding bad_range has_true_range
  no_ranges other =
      sym (first_only (count l) (count l) (has_true_range l) (omega arith) (λ i _. simp (ne_eqb (edition l) 2 other)) (λ h. absurd (omega arith)))

  -- where the contents are right, so that the edition is the one that was read.
  pub other_ranges : (edition_or l ≡ 2 → ⊥) → file_answer (contents_tests l (length l)) ≡ Ok tt → bad_range l ≡ count l
  other_ranges other done = no_ranges (λ e. other (edition-read l done ∙ e))

  -- In an accepted file every block has its true range.
  pub ranges_true : file_answer (file_tests l) ≡ Ok tt → (i : ℕ) → i < count l → has_true_range l i ≡ true
  unfolding bad_range
  ranges_true done i h = first-before (count l) (has_true_range l) i (omega (arith, file-true done))

  -- A body of a file of bytes is of bytes.
  body_bytes : Elements 8 l → (i : ℕ) → Elements 8 (body_of l i)
  unfolding body_of
  body_bytes bytes i = take-elements 8 (entry_of l i).length (drop (body_start l i) l) (drop-elements 8 (body_start l i) l bytes)

  -- So a block of an accepted file of bytes is 1,024 numbers of 64 bits,
  pub file_block : Elements 8 l → file_answer (file_tests l) ≡ Ok tt → (i : ℕ) → i < count l → Block (block_in l i)
  unfolding block_in
  file_block bytes done i h = a_block (entry_of l i) (body_of l i) (body_laid l (contents-right (file-runs done)) i h) (body_bytes bytes i)

  -- and in edition 2 every value of it is between the smallest and the largest that its entry says, and both stand in
  -- the block.
  pub file_spans : Elements 8 l → file_answer (file_tests l) ≡ Ok tt → edition l ≡ 2 → (i : ℕ) → i < count l → Spans (range_of l i).smallest (range_of l i).largest (block_in l i)
  unfolding has_true_range
  file_spans bytes done second i h =
      let block = file_block bytes done i h in
      let tested = sym (ap (λ t. pick t (is_range (range_of l i) (block_in l i)) true) (eq-eqb (edition l) 2 second)) ∙ ranges_true done i h in
      (range_spans (range_of l i) (block_in l i) (omega (arith, block.0)) block.1).0 tested
