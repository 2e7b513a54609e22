-- The laws of one body: the numbers that are read of it, the block that it stands for by its kind, and the tests of it
-- one by one.
-- Assumes nothing.
use mathlib.Core.Bool.{Bool, true, false}
use mathlib.Core.List.{List, [], ◌∷◌}
use mathlib.Core.Path.{◌≡◌, refl, sym, ap, ap₂, ◌∙◌, subst}
use Prim.Native.Nat.{ℕ, ◌+◌, ◌*◌, ◌-◌, ◌≤◌, ◌<◌}
use native.Mathlib.Decide.{dec_le}
use native.Mathlib.Omega.{arith}
use lib.Dec.{eqb, ltb, leb}
use lib.ListN.{length, take, drop, replicate, length-drop, length-replicate}
use lib.Seq.{take_all, length-take-le}
use borrow.Author.Tests.{le-leb, lt-leb, lt-ltb, le-ltb, eq-eqb, ne_eqb}
use Rattle.std.specs.Prelude.{Ok, Err}
use Rattle.lists.specs.Tests.{unless}
use Rattle.lists.specs.Pick.{pick}
use Rattle.lists.specs.Search.{first_beyond}
use Rattle.lists.specs.Ends.{highest_of}
use Rattle.lists.proofs.Highs.{highest-beyond}
use Rattle.places.specs.declared.Answer.TheVariants.{Done as NoRefusal, Dictionary}
use Rattle.places.specs.Answers.{is_done}
use Rattle.places.specs.Sizes.{t64, lanes}
use Rattle.places.specs.Takes.{answer_for}
use Rattle.packing.specs.Packed.{unpack_of}
use Rattle.deltas.specs.Deltas.{unfor_pack_of, undelta_pack_of}
use Rattle.runs.specs.Calls.{decode_takes, decode_leaves}
use Rattle.runs.specs.Runs.{decode_of}
use Rattle.little.specs.Little.{read_leaves}
pub use Rattle.little.proofs.Little.{length-numbers, numbers-read}
use Rattle.contents.specs.declared.Entry.{Entry}
use Rattle.contents.specs.declared.FileRefusal.{FileRefusal}
use Rattle.contents.specs.declared.FileRefusal.TheVariants.{Block, Cut, BadEntry, Over, Runs}
use Rattle.contents.specs.Answers.{file_answer, left}
use Rattle.contents.specs.Contents.{is_laid_out}
use Rattle.contents.proofs.Answers.{passed, stopped, none_left, left-err}
use Rattle.contents.proofs.Laid.{laid_packed, laid_frame}
use Rattle.bodies.specs.Bodies.{words_from, packed_from, run_indices, value_count, block_of, indexed, has_good_runs, body_tests, block_tests, block_leaves}

-- Words are read from the part of a body that begins at byte `at` as they are from its front.
pub words-read : (body words : List ℕ) (at n : ℕ) → length words ≡ n → at + 8 * n ≤ length body
    → read_leaves 8 (take (length body - at) (drop at body)) words ≡ words_from body at n
words-read body words at n l h =
    let rest : take (length body - at) (drop at body) ≡ drop at body = take_all (length body - at) (drop at body) (omega (arith, length-drop at body)) in
    ap (λ part. read_leaves 8 part words) rest ∙ numbers-read 8 (drop at body) words n l (omega (arith, length-drop at body))

-- The part of an array of m zeros that ends before place n has n places.
pub lent : (m n : ℕ) → n ≤ m → length (take n (replicate {A = ℕ} m 0)) ≡ n
lent m n h = length-take-le n (replicate m 0) (subst (λ k. n ≤ k) (sym (length-replicate m 0)) h)

-- An entry of kind 0 or 1 that is as laid out has a width of at most 64, and the length that it asks for.
pub laid_plain : (e : Entry) → is_laid_out e ≡ true → e.kind < 2 → (e.width ≤ 64) × (e.length ≡ 128 * e.width)
laid_plain e good k =
    elim (dec_le e.kind 0) [
      | yes h ↦ laid_packed e good (omega arith)
      | no h ↦ laid_frame e good (omega arith)
    ]

-- The kind says what the block is.
module _ (e : Entry) (body : List ℕ) where
  pub block_packed : e.kind ≡ 0 → block_of e body ≡ unpack_of t64 e.width (packed_from body 0 e.width)
  unfolding block_of
  block_packed k = rw k

  pub block_frame : e.kind ≡ 1 → block_of e body ≡ unfor_pack_of t64 e.width (packed_from body 0 e.width) e.reference
  unfolding block_of
  block_frame k = rw k

  pub block_differences : e.kind ≡ 2
      → block_of e body ≡ undelta_pack_of t64 e.width (packed_from body 128 e.width) (words_from body 0 (lanes t64))
  unfolding block_of
  block_differences k = rw k

  pub block_runs : e.kind ≡ 3 → block_of e body ≡ decode_of (words_from body 2048 (value_count e)) (run_indices body)
  unfolding block_of
  block_runs k = rw k

-- Every run index is below n exactly when the highest one is.
pub indexed-high : (n : ℕ) (body : List ℕ) → indexed n body ≡ ltb (highest_of (run_indices body)) n
indexed-high n body =
    let xs = run_indices body in
    let long : length xs ≡ 1024 = length-numbers 2 body 1024 in
    let same = highest-beyond n xs (omega arith) in
    elim (dec_le n (highest_of xs)) [
      | yes h ↦ ne_eqb (first_beyond n xs) 1024 (λ e. omega (arith, same.1 (e ∙ sym long))) ∙ sym (le-ltb (highest_of xs) n h)
      | no h ↦ eq-eqb (first_beyond n xs) 1024 (same.0 (omega arith) ∙ long) ∙ sym (lt-ltb (highest_of xs) n (omega arith))
    ]

-- Where one test is left, the call is done exactly when it passes.
done_only : (b : Bool) (p : ℕ) → is_done (unless b (Dictionary p) NoRefusal) ≡ b
done_only true p = refl
done_only false p = refl

-- Run values and run indices are read whole, and decode is done with them exactly when every run index is below the
-- number of the values.
module _ (body indices values output : List ℕ) (b : length body ≡ 2048 + 8 * length values) (i : length indices ≡ 1024) (o : length output ≡ 1024) where
  values_read : read_leaves 8 (take (length body - 2048) (drop 2048 body)) values ≡ words_from body 2048 (length values)
  values_read = words-read body values 2048 (length values) refl (omega arith)

  indices-read : read_leaves 2 body indices ≡ run_indices body
  indices-read = numbers-read 2 body indices 1024 i (omega arith)

  indices-taken : is_done (answer_for (decode_takes (words_from body 2048 (length values)) (run_indices body) output)) ≡ indexed (length values) body
  unfolding answer_for
  indices-taken =
      let v = words_from body 2048 (length values) in
      let x = run_indices body in
      simp (eq-eqb (length x) 1024 (length-numbers 2 body 1024), eq-eqb (length output) 1024 o)
      (done_only (eqb (first_beyond (length v) x) (length x)) (first_beyond (length v) x)
      ∙ ap₂ (λ k m. eqb (first_beyond k x) m) (length-numbers 8 (drop 2048 body) (length values)) (length-numbers 2 body 1024))

  pub runs_taken : is_done (answer_for (decode_takes (read_leaves 8 (take (length body - 2048) (drop 2048 body)) values) (read_leaves 2 body indices) output))
      ≡ indexed (length values) body
  runs_taken = ap₂ (λ v x. is_done (answer_for (decode_takes v x output))) values_read indices-read ∙ indices-taken

  pub runs-left : decode_leaves (read_leaves 8 (take (length body - 2048) (drop 2048 body)) values) (read_leaves 2 body indices) output
      ≡ pick (indexed (length values) body) (decode_of (words_from body 2048 (length values)) (run_indices body)) output
  unfolding decode_leaves
  runs-left =
      ap₂ (λ v x. decode_leaves v x output) values_read indices-read
      ∙ ap (λ d. pick d (decode_of (words_from body 2048 (length values)) (run_indices body)) output) indices-taken

-- The last test is that of the run indices. Where they are good the answer is done, and where they are not it is a
-- refusal.
last_answer : (b : Bool) → file_answer ((b, Err (Runs 0)) ∷ []) ≡ pick b (Ok tt) (Err (Runs 0))
last_answer true = passed _ [] refl ∙ none_left
last_answer false = stopped _ [] refl

pub runs_done : {b : Bool} → b ≡ true → Ok tt ≡ file_answer ((b, Err (Runs 0)) ∷ [])
runs_done {b} h = sym (last_answer b ∙ ap (λ x. pick x (Ok tt) (Err (Runs 0))) h)

pub runs_bad : {b : Bool} → b ≡ false → Err (Runs 0) ≡ file_answer ((b, Err (Runs 0)) ∷ [])
runs_bad {b} h = sym (last_answer b ∙ ap (λ x. pick x (Ok tt) (Err (Runs 0))) h)

-- So an output is left as the run indices say.
last_left : (b : Bool) (new old : List ℕ) → left (file_answer ((b, Err (Runs 0)) ∷ [])) new old ≡ pick b new old
last_left true new old = ap (λ a. left a new old) (last_answer true)
last_left false new old = ap (λ a. left a new old) (last_answer false)

-- The tests of a body go one by one.
module _ (e : Entry) (body : List ℕ) where
  -- A body of another kind than 3 has no run indices,
  pub other-runs : (e.kind ≡ 3 → ⊥) → has_good_runs e body ≡ true
  unfolding has_good_runs
  other-runs k = simp (ne_eqb e.kind 3 k)

  -- so the call is done when its block is laid down.
  pub other-done : (new output : List ℕ) → (e.kind ≡ 3 → ⊥) → new ≡ block_of e body
      → (Ok tt ≡ file_answer ((has_good_runs e body, Err (Runs 0)) ∷ [])) × (new ≡ pick (has_good_runs e body) (block_of e body) output)
  other-done new output k h = (runs_done (other-runs k), h ∙ sym (ap (λ b. pick b (block_of e body) output) (other-runs k)))

  -- In a body of runs every index is looked at.
  pub runs-runs : e.kind ≡ 3 → has_good_runs e body ≡ indexed (value_count e) body
  unfolding has_good_runs
  runs-runs k = simp (eq-eqb e.kind 3 k)

  pub not_laid : is_laid_out e ≡ false → file_answer (body_tests e body) ≡ Err (BadEntry 0)
  not_laid f = stopped _ _ f

  module _ (good : is_laid_out e ≡ true) where
    laid : file_answer (body_tests e body)
        ≡ file_answer ((leb e.length (length body), Err Cut) ∷ (leb (length body) e.length, Err Over) ∷ (has_good_runs e body, Err (Runs 0)) ∷ [])
    laid = passed _ _ good

    pub body-cut : length body < e.length → file_answer (body_tests e body) ≡ Err Cut
    body-cut h = laid ∙ stopped _ _ (lt-leb e.length (length body) h)

    pub body-over : e.length < length body → file_answer (body_tests e body) ≡ Err Over
    body-over h =
        laid
        ∙ passed _ _ (le-leb e.length (length body) (omega arith))
        ∙ stopped _ _ (lt-leb (length body) e.length h)

    pub body-whole : length body ≡ e.length → file_answer (body_tests e body) ≡ file_answer ((has_good_runs e body, Err (Runs 0)) ∷ [])
    body-whole h =
        laid
        ∙ passed _ _ (le-leb e.length (length body) (omega arith))
        ∙ passed _ _ (le-leb (length body) e.length (omega arith))

  -- The length of an output is tested first, and after a refusal the output holds what it held.
  module _ (output : List ℕ) where
    pub bad_output : (length output ≡ 1024 → ⊥) → file_answer (block_tests e body output) ≡ Err Block
    bad_output h = stopped _ _ (ne_eqb (length output) 1024 h)

    pub good-output : length output ≡ 1024 → file_answer (block_tests e body output) ≡ file_answer (body_tests e body)
    good-output o = passed _ _ (eq-eqb (length output) 1024 o)

    pub refused : {r : FileRefusal} → file_answer (block_tests e body output) ≡ Err r
        → (Err r ≡ file_answer (block_tests e body output)) × (output ≡ block_leaves e body output)
    unfolding block_leaves
    refused {r} is = (sym is, sym (ap (λ x. left x (block_of e body) output) is ∙ left-err r (block_of e body) output))

    -- So it is for a body that is not as its entry says.
    pub not_whole : {r : FileRefusal} → length output ≡ 1024 → Err r ≡ file_answer (body_tests e body)
        → (Err r ≡ file_answer (block_tests e body output)) × (output ≡ block_leaves e body output)
    not_whole o is = refused (good-output o ∙ sym is)

    -- For a body that is as its entry says, the run indices decide.
    module _ (good : is_laid_out e ≡ true) (h : length body ≡ e.length) (o : length output ≡ 1024) where
      pub block_answer : file_answer (block_tests e body output) ≡ file_answer ((has_good_runs e body, Err (Runs 0)) ∷ [])
      block_answer = good-output o ∙ body-whole good h

      pub block_left : block_leaves e body output ≡ pick (has_good_runs e body) (block_of e body) output
      unfolding block_leaves
      block_left = ap (λ a. left a (block_of e body) output) block_answer ∙ last_left (has_good_runs e body) (block_of e body) output
