-- What one body makes of the answer so far, test by test.
-- Assumes nothing.
use mathlib.Core.Bool.{Bool, true, false}
use mathlib.Core.List.{List, [], ◌∷◌}
use mathlib.Core.Path.{◌≡◌, refl, sym, ap, ◌∙◌}
use Prim.Native.Nat.{ℕ}
use native.Mathlib.Decide.{ℕ_discrete}
use native.Mathlib.Omega.{arith}
use lib.Dec.{leb}
use lib.ListN.{length}
use borrow.Author.Tests.{eq-eqb, ne_eqb, eqb-true}
use Rattle.std.specs.Prelude.{Ok, Err}
use Rattle.lists.specs.Pick.{pick}
use Rattle.contents.specs.declared.Entry.{Entry}
use Rattle.contents.specs.declared.FileRefusal.{FileRefusal}
use Rattle.contents.specs.declared.FileRefusal.TheVariants.{BadEntry, Runs, Range, Cut, Over}
use Rattle.contents.specs.Answers.{FileAnswer, FileTest, file_answer, number_of, is_done, left}
use Rattle.contents.specs.Contents.{edition_or, entry_or, range_or, has_right_entry}
use Rattle.contents.proofs.Accepted.{done_first}
use Rattle.contents.proofs.Answers.{passed, stopped, none_left, in_front-done, in_front-refused, refusal_numbered, left-err, number-done}
use Rattle.contents.proofs.Entries.{right_laid}
use Rattle.bodies.specs.Bodies as Bodies
use Rattle.bodies.specs.Bodies.{block_of, has_good_runs}
use Rattle.bodies.specs.Ranges.{is_range}
use Rattle.bodywise.specs.InnerPlaced.{in_block}
use Rattle.bodywise.specs.Steps.{entry_test, has_true_range, range_test, body_tests, held_tests, held_leaves, range_tests, step_tests, step_of}

-- ---- the place of a refusal of one body

-- The place of 13 is the block, and no other answer changes.
pub runs_placed : (i : ℕ) (a : FileAnswer) → number_of a ≡ 13 → in_block i a ≡ Err (Runs i)
runs_placed i a e = ap (λ t. pick t (Err (Runs i)) a) (eq-eqb (number_of a) 13 e)

pub others_kept : (i : ℕ) (a : FileAnswer) → (number_of a ≡ 13 → ⊥) → in_block i a ≡ a
others_kept i a n = ap (λ t. pick t (Err (Runs i)) a) (ne_eqb (number_of a) 13 n)

-- So an answer is done exactly when it was done before its place was set.
placed_same : (i : ℕ) (a : FileAnswer) → is_done (in_block i a) ≡ is_done a
placed_same i a =
    elim (ℕ_discrete (number_of a) 13) [
      | yes runs ↦ ap is_done (runs_placed i a runs) ∙ sym (ne_eqb (number_of a) 0 (λ z. omega arith))
      | no other ↦ ap is_done (others_kept i a other)
    ]

placed_done : (i : ℕ) (a : FileAnswer) → in_block i a ≡ Ok tt → a ≡ Ok tt
placed_done i a e = number-done a (eqb-true (number_of a) 0 (sym (placed_same i a) ∙ ap is_done e))

-- A body that passes its tests is laid down.
pub block_laid : (e : Entry) (body output : List ℕ) → file_answer (Bodies.body_tests e body) ≡ Ok tt → length output ≡ 1024
    → Bodies.block_leaves e body output ≡ block_of e body
unfolding Bodies.block_leaves
block_laid e body output done long =
    ap (λ a. left a (block_of e body) output) (passed _ _ (eq-eqb (length output) 1024 long) ∙ done)

-- ---- a test of one entry or block alone

-- The tests that are the same but for the place of 13 give the same but for that place.
placed_next : (i : ℕ) (x : FileTest) (xs ys : List FileTest) → in_block i x.1 ≡ x.1 → in_block i (file_answer xs) ≡ file_answer ys
    → in_block i (file_answer (x ∷ xs)) ≡ file_answer (x ∷ ys)
placed_next i x xs ys same rest = go x.0 refl
  where
    go : (b : Bool) → x.0 ≡ b → in_block i (file_answer (x ∷ xs)) ≡ file_answer (x ∷ ys)
    go true p = ap (in_block i) (passed x xs p) ∙ rest ∙ sym (passed x ys p)
    go false p = ap (in_block i) (stopped x xs p) ∙ same ∙ sym (stopped x ys p)

placed_last : (i : ℕ) (test : Bool) → in_block i (file_answer ((test, Err (Runs 0)) ∷ [])) ≡ file_answer ((test, Err (Runs i)) ∷ [])
placed_last i true = ap (in_block i) (passed _ _ refl ∙ none_left) ∙ sym (passed _ _ refl ∙ none_left)
placed_last i false = ap (in_block i) (stopped _ _ refl) ∙ sym (stopped _ _ refl)

module _ (front : List ℕ) (i : ℕ) where
  -- ---- the entry

  -- An entry that is right leaves the answer to the tests behind it, and one that is not is 10 with its place.
  pub entry-right : (xs : List FileTest) → has_right_entry front i ≡ true → file_answer (entry_test front i ∷ xs) ≡ file_answer xs
  entry-right xs e = passed _ _ e

  pub entry_wrong : (xs : List FileTest) → has_right_entry front i ≡ false → file_answer (entry_test front i ∷ xs) ≡ Err (BadEntry i)
  entry_wrong xs e = stopped _ _ e

  pub done-right : (xs : List FileTest) → file_answer (entry_test front i ∷ xs) ≡ Ok tt → has_right_entry front i ≡ true
  done-right xs done = (done_first (entry_test front i) xs refl done).0

  -- So a refusal of the entry alone is that of all tests that begin with it, and an entry that is not refused is right.
  pub entry_first : (xs : List FileTest) {r : FileRefusal} → Err r ≡ file_answer (entry_test front i ∷ []) → Err r ≡ file_answer (entry_test front i ∷ xs)
  entry_first xs {r} e = e ∙ sym (in_front-refused (entry_test front i ∷ []) xs (λ d. refusal_numbered r (ap number_of (e ∙ d))))

  pub entry-passed : Ok tt ≡ file_answer (entry_test front i ∷ []) → has_right_entry front i ≡ true
  entry-passed e = done-right [] (sym e)

  -- ---- the body

  module _ (body : List ℕ) where
    -- Behind an entry that is right the tests of one body give what those of body i give, but for the place.
    pub body_placed : has_right_entry front i ≡ true → in_block i (file_answer (Bodies.body_tests (entry_or front i) body)) ≡ file_answer (body_tests front i body)
    body_placed right =
        ap (in_block i) (passed _ _ (right_laid front i right))
        ∙ placed_next i (leb (entry_or front i).length (length body), Err Cut) _ _ refl
        (placed_next i (leb (length body) (entry_or front i).length, Err Over) _ _ refl (placed_last i (has_good_runs (entry_or front i) body)))
        ∙ sym (entry-right _ right)

    -- A body that passes them is as its entry says.
    pub body-done : file_answer (body_tests front i body) ≡ Ok tt → file_answer (Bodies.body_tests (entry_or front i) body) ≡ Ok tt
    body-done done = placed_done i _ (body_placed (done-right _ done) ∙ done)

    -- ---- the block that is laid down

    module _ (block : List ℕ) where
      -- A refusal leaves it as it was,
      pub block_refused : {r : FileRefusal} → file_answer (held_tests front i body block) ≡ Err r
          → (Err r ≡ file_answer (held_tests front i body block)) × (block ≡ held_leaves front i body block)
      unfolding held_leaves
      block_refused {r} e = (
        sym e,
        sym (ap (λ a. left a (block_of (entry_or front i) body) block) e ∙ left-err r (block_of (entry_or front i) body) block),
      )

      -- and behind an entry that is right it is laid down as that of one body is.
      pub block_placed : length block ≡ 1024 → has_right_entry front i ≡ true
          → in_block i (file_answer (Bodies.block_tests (entry_or front i) body block)) ≡ file_answer (held_tests front i body block)
      block_placed long right =
          let t = eq-eqb (length block) 1024 long in
          ap (in_block i) (passed _ _ t) ∙ body_placed right ∙ sym (passed _ _ t)

      pub block_left : length block ≡ 1024 → has_right_entry front i ≡ true
          → Bodies.block_leaves (entry_or front i) body block ≡ held_leaves front i body block
      unfolding held_leaves Bodies.block_leaves
      block_left long right =
          let a = file_answer (Bodies.block_tests (entry_or front i) body block) in
          ap (λ t. pick t (block_of (entry_or front i) body) block) (sym (placed_same i a) ∙ ap is_done (block_placed long right))

    -- ---- the answer with one body more

    module _ (a : FileAnswer) where
      -- A refusal stays,
      pub step_settled : (number_of a ≡ 0 → ⊥) → step_of a front i body ≡ a
      unfolding step_of
      step_settled n = ap (λ t. pick t (file_answer (step_tests front i body)) a) (ne_eqb (number_of a) 0 n)

      module _ (empty : number_of a ≡ 0) where
        pub step-next : step_of a front i body ≡ file_answer (step_tests front i body)
        unfolding step_of
        step-next = ap (λ t. pick t (file_answer (step_tests front i body)) a) (eq-eqb (number_of a) 0 empty)

        -- then a refusal of the body is given,
        pub step-body : (file_answer (body_tests front i body) ≡ Ok tt → ⊥) → step_of a front i body ≡ file_answer (body_tests front i body)
        step-body n = step-next ∙ in_front-refused (body_tests front i body) _ n

        -- and then the range decides.
        pub step_range : file_answer (body_tests front i body) ≡ Ok tt
            → step_of a front i body ≡ file_answer (range_tests front i (block_of (entry_or front i) body))
        step_range done = step-next ∙ in_front-done (body_tests front i body) _ refl done ∙ sym (entry-right _ (done-right _ done))

  -- ---- the range

  module _ (block : List ℕ) where
    -- A file of another edition than 2 says no range,
    pub range_none : (edition_or front ≡ 2 → ⊥) → has_true_range front i block ≡ true
    unfolding has_true_range
    range_none n = ap (λ t. pick t (is_range (range_or front i) block) true) (ne_eqb (edition_or front) 2 n)

    -- and in edition 2 the range is held to the block.
    pub range-held : edition_or front ≡ 2 → has_true_range front i block ≡ is_range (range_or front i) block
    unfolding has_true_range
    range-held e = ap (λ t. pick t (is_range (range_or front i) block) true) (eq-eqb (edition_or front) 2 e)

    -- So the test gives 15 with the block, or nothing.
    pub range-tested : {test : Bool} → has_true_range front i block ≡ test → file_answer (range_test front i block ∷ []) ≡ pick test (Ok tt) (Err (Range i))
    range-tested {test} = go test
      where
        go : (test : Bool) → has_true_range front i block ≡ test → file_answer (range_test front i block ∷ []) ≡ pick test (Ok tt) (Err (Range i))
        go true e = passed _ _ e ∙ none_left
        go false e = stopped _ _ e

    pub range-answer : {test : Bool} → has_right_entry front i ≡ true → has_true_range front i block ≡ test → file_answer (range_tests front i block) ≡ pick test (Ok tt) (Err (Range i))
    range-answer right e = entry-right _ right ∙ range-tested e
