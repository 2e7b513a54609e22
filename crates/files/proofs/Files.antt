-- What holds of a file whose contents are right: each body is as long as its entry says, and the test of one body tells
-- of its run indices alone.
-- Assumes nothing.
use Rattle.std.specs.Prelude.{not, Ok, Err, is_err}
use Rattle.std.proofs.Common.{◌≡◌, ℕ, ◌<◌, Bool, true, false, eqb, ltb, List, [], ◌∷◌, length, sym, refl, ap, ◌∙◌, arith, length-drop, length-take, ltb-true, eq-eqb, le-leb}
use Rattle.lists.specs.Pick.{pick}
use Rattle.lists.proofs.Search.{first_only}
use Rattle.contents.specs.declared.FileRefusal.TheVariants.{Runs}
use Rattle.contents.specs.Answers.{FileAnswer, file_answer, is_done, left}
use Rattle.contents.specs.Contents.{edition, count, entry_of, contents_tests}
use Rattle.contents.proofs.Accepted.{whole-taken}
use Rattle.contents.proofs.Answers.{passed, stopped, none_left}
use Rattle.bodies.specs.Bodies.{block_of, has_good_runs, body_tests, block_tests, block_leaves}
use Rattle.bodies.proofs.Bodies.{other-runs}
use Rattle.bodywise.proofs.Told.{whole, body-ends, body_laid}
use Rattle.files.specs.Files.{body_of, block_in, bad_runs}

-- This test says that block i has its run indices in range.
abbrev pub good_in : (l : List ℕ) (i : ℕ) → Bool
good_in l i = has_good_runs (entry_of l i) (body_of l i)

-- The test of one run block, by what it says.
pub runs-tested : (b : Bool) → file_answer ((b, Err (Runs 0)) ∷ []) ≡ pick b (Ok tt) (Err (Runs 0))
runs-tested true = passed _ _ refl ∙ none_left
runs-tested false = stopped _ _ refl

-- what its number tells of that test
pub tested-done : (b : Bool) → is_done (pick b (Ok tt) (Err (Runs 0))) ≡ b
tested-done true = refl
tested-done false = refl

-- what its refusal tells of that test
pub refused_not : (b : Bool) → is_err (pick {A = FileAnswer} b (Ok tt) (Err (Runs 0))) ≡ not b
refused_not true = refl
refused_not false = refl

-- What a call leaves that is refused for a run index alone, by that test.
pub left_picked : {A : Type 0} (b : Bool) (p : ℕ) (new old : A) → left (pick b (Ok tt) (Err (Runs p))) new old ≡ pick b new old
left_picked true p new old = refl
left_picked false p new old = refl

module _ (l : List ℕ) (done : file_answer (contents_tests l (length l)) ≡ Ok tt) where
  -- In edition 2 no block has run indices.
  pub second_good : edition l ≡ 2 → (i : ℕ) → i < count l → good_in l i ≡ true
  second_good second i h =
      let taken = sym (ap (λ t. pick t (ltb (entry_of l i).kind 3) true) (eq-eqb (edition l) 2 second)) ∙ whole-taken (whole l done) i h in
      let below : (entry_of l i).kind < 3 = ltb-true (entry_of l i).kind 3 taken in
      other-runs (entry_of l i) (body_of l i) (λ e. omega arith)

  module _ (i : ℕ) (h : i < count l) where
    pub body-long : length (body_of l i) ≡ (entry_of l i).length
    unfolding body_of
    body-long = simp (length-take, length-drop) (omega (arith, body-ends l done i h))

    -- of the tests of a body only that of its run indices is left
    pub body-tested : file_answer (body_tests (entry_of l i) (body_of l i)) ≡ pick (good_in l i) (Ok tt) (Err (Runs 0))
    body-tested =
        passed _ _ (body_laid l done i h)
        ∙ passed _ _ (le-leb (entry_of l i).length (length (body_of l i)) (omega (arith, body-long)))
        ∙ passed _ _ (le-leb (length (body_of l i)) (entry_of l i).length (omega (arith, body-long)))
        ∙ runs-tested (good_in l i)

    -- and so it is where the block is laid down, in an output of the right length,
    pub block_tested : (output : List ℕ) → length output ≡ 1024
        → file_answer (block_tests (entry_of l i) (body_of l i) output) ≡ pick (good_in l i) (Ok tt) (Err (Runs 0))
    block_tested output e = passed _ _ (eq-eqb (length output) 1024 e) ∙ body-tested

    -- which leaves the block, or the output as it was
    pub block_left : (output : List ℕ) → length output ≡ 1024
        → block_leaves (entry_of l i) (body_of l i) output ≡ pick (good_in l i) (block_in l i) output
    unfolding block_leaves block_in
    block_left output e =
        ap (λ a. left a (block_of (entry_of l i) (body_of l i)) output) (block_tested output e)
        ∙ left_picked (good_in l i) 0 (block_of (entry_of l i) (body_of l i)) output

module _ (l : List ℕ) where
  -- Where every block is good, the test of the run indices is passed.
  pub no_bad_runs : ((k : ℕ) → k < count l → good_in l k ≡ true) → file_answer ((eqb (bad_runs l) (count l), Err (Runs (bad_runs l))) ∷ []) ≡ Ok tt
  unfolding bad_runs
  no_bad_runs all =
      let found : count l ≡ bad_runs l = first_only (count l) (count l) (good_in l) (omega arith) all (λ h. absurd (omega arith)) in
      passed _ _ (eq-eqb (bad_runs l) (count l) (sym found)) ∙ none_left
