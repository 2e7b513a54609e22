-- What is proved of a file that the writer lays down (R87, R102): the reader accepts it, its rows are the numbers, and
-- each entry says its block's smallest and largest number.
-- Assumes nothing.
use mathlib.Core.Bool.{Bool, true}
use mathlib.Core.List.{List, ◌++◌, append_assoc}
use mathlib.Core.Logic.{inr}
use mathlib.Core.Path.{◌≡◌, refl, sym, ap, ap₂, ◌∙◌}
use Prim.Native.Nat.{ℕ, zero, suc, ◌+◌, ◌*◌, ◌/◌, ◌%◌, ◌^◌, ◌≤◌, ◌<◌}
use native.Mathlib.Omega.{arith}
use lib.ListN.{length, get_or, take, drop, length-append}
use lib.Seq.{take_at, drop_at}
use borrow.Author.Tests.{eq-eqb, le-leb}
use Rattle.std.specs.Prelude.{Ok}
use Rattle.lists.specs.Numbers.{Elements}
use Rattle.lists.specs.Pick.{pick, both}
use Rattle.lists.specs.Tab.{tab}
use Rattle.lists.specs.Search.{first_bad}
use Rattle.lists.specs.Ends.{highest_of, lowest_of}
use Rattle.lists.proofs.Parts.{length_cut, get_d_cut, cut-elements, joined_at}
use Rattle.lists.proofs.Tabs.{is-tab}
use Rattle.lists.proofs.Search.{first_only}
use Rattle.lists.proofs.Highs.{highest-below}
use Rattle.lists.proofs.Lows.{lowest-element}
use Rattle.places.specs.Sizes.{t64}
use Rattle.contents.specs.Answers.{file_answer}
use Rattle.contents.specs.Bytes.{head_bytes}
use Rattle.contents.specs.Contents.{edition, count, contents_size, entry_at, entry_of, range_at_lem, any_range, range_of, is_laid_out, is_taken_in, is_ordered, is_right, bodies_size, body_start, contents_tests}
use Rattle.contents.proofs.Accepted.{Whole, accepts, done-both}
use Rattle.contents.proofs.Answers.{passed, none_left}
use Rattle.contents.proofs.Bytes.{RangeFits, head-edition, head-count, entry_back, range_back}
use Rattle.contents.proofs.Laid.{taken-plain}
use Rattle.contents.proofs.Sizes.{size-least}
use Rattle.bodies.specs.Bodies.{block_of, has_good_runs}
use Rattle.bodies.specs.Ranges.{true_range, is_range}
use Rattle.candidates.specs.Candidates.{chosen, body_for}
use Rattle.candidates.proofs.Calls.{lowest-highest}
use Rattle.candidates.proofs.Choice.{body_sized, chosen_kind, chosen_laid, chosen-fits, chosen-runs}
use Rattle.candidates.proofs.Least.{chosen-restores}
use Rattle.files.specs.Files.{body_of, block_in, row_at, rows_of, bad_runs, has_true_range, bad_range, file_tests}
use Rattle.writer.specs.Writer.{block_count, block_at, entries_for, bodies_for, file_of}
use Rattle.writer.proofs.Laying.{written_entry, fronts, length-fronts, bodies-none, bodies_longer, length-file}

-- Where every test passes, none is the lowest that fails.
none_first : (n : ℕ) (test : ℕ → Bool) → ((i : ℕ) → i < n → test i ≡ true) → first_bad n test ≡ n
none_first n test all = sym (first_only n n test (omega arith) all (λ h. absurd (omega arith)))

-- A block's true range passes its test.
range-is-true : (block : List ℕ) → is_range (true_range block) block ≡ true
range-is-true block = ap₂ both (eq-eqb (lowest_of block) (lowest_of block) refl) (eq-eqb (highest_of block) (highest_of block) refl)

module _ (values : List ℕ) (n : ℕ) (whole : length values ≡ n * 1024) (few : n ≤ 256) (fits : Elements t64 values) where
  blocks : block_count values ≡ n
  blocks = omega arith

  block_long : (i : ℕ) → i < n → length (block_at values i) ≡ 1024
  block_long i h = length_cut 1024 values i (omega arith)

  block_fits : (i : ℕ) → Elements t64 (block_at values i)
  block_fits i = cut-elements t64 1024 values i fits

  abbrev file : List ℕ
  file = file_of values

  file-is : file ≡ fronts values n n ++ bodies_for values n
  unfolding file_of
  file-is = ap (λ k. head_bytes k ++ entries_for values k ++ bodies_for values k) blocks

  head_first : file ≡ head_bytes n ++ (entries_for values n ++ bodies_for values n)
  head_first = file-is ∙ append_assoc (head_bytes n) (entries_for values n) (bodies_for values n)

  length-is : length file ≡ contents_size 2 n + length (bodies_for values n)
  length-is = length-file values ∙ ap (λ k. contents_size 2 k + length (bodies_for values k)) blocks

  pub edition-is : edition file ≡ 2
  edition-is = ap edition head_first ∙ head-edition n (entries_for values n ++ bodies_for values n)

  pub count-is : count file ≡ n
  count-is = ap count head_first ∙ head-count n (entries_for values n ++ bodies_for values n) (omega arith)

  -- Entry i stands behind the entries in front of it,
  entry-split : (i : ℕ) → i < n → (rest : List ℕ) × (file ≡ fronts values n i ++ (written_entry (block_at values i) ++ rest))
  unfolding entries_for
  entry-split i h =
      let r = joined_at n (λ b. written_entry (block_at values b)) i h in
      let e : List ℕ = written_entry (block_at values i) in
      let c : List ℕ = entries_for values i in (
        r.0 ++ bodies_for values n,
        head_first
            ∙ ap (λ x. head_bytes n ++ (x ++ bodies_for values n)) r.1
            ∙ ap (λ x. head_bytes n ++ x) (append_assoc c (e ++ r.0) (bodies_for values n) ∙ ap (λ x. c ++ x) (append_assoc e r.0 (bodies_for values n)))
            ∙ sym (append_assoc (head_bytes n) c (e ++ (r.0 ++ bodies_for values n))),
      )

  entry_place : (i : ℕ) → contents_size (edition file) i ≡ length (fronts values n i)
  entry_place i = ap (λ e. contents_size e i) edition-is ∙ sym (length-fronts values n i)

  -- so it is read back,
  pub entry_read : (i : ℕ) → i < n → entry_of file i ≡ (chosen (block_at values i)).entry
  unfolding entry_of
  entry_read i h =
      let s = entry-split i h in
      ap₂ (λ l at. entry_at l at) s.1 (entry_place i)
      ∙ entry_back (chosen (block_at values i)).entry (true_range (block_at values i)) (fronts values n i) s.0 (chosen-fits (block_at values i))

  -- with its range, which fits its bytes,
  range-fits : (i : ℕ) → RangeFits (true_range (block_at values i))
  range-fits i = record {
    small = lowest-element (block_at values i);
    large = highest-below (2 ^ 64) (block_at values i) (omega arith) (λ k _. block_fits i k);
  }

  pub range-read : (i : ℕ) → i < n → range_of file i ≡ true_range (block_at values i)
  unfolding range_of
  range-read i h =
      let s = entry-split i h in
      ap (λ b. pick b (range_at_lem file (contents_size (edition file) i + 16)) any_range) (eq-eqb (edition file) 2 edition-is)
      ∙ ap₂ (λ l at. range_at_lem l (at + 16)) s.1 (entry_place i)
      ∙ range_back (chosen (block_at values i)).entry (true_range (block_at values i)) (fronts values n i) s.0 (range-fits i)

  -- so the entry is right,
  entry-right : (i : ℕ) → i < n → is_right file i ≡ true
  unfolding is_right
  entry-right i h =
      let block : List ℕ = block_at values i in
      ap₂ both
      (ap is_laid_out (entry_read i h) ∙ chosen_laid block)
      (ap₂ both
      (ap₂ (λ e x. is_taken_in e x) edition-is (entry_read i h) ∙ (taken-plain 2 (chosen block).entry).1 (λ _. omega (arith, chosen_kind block)))
      (ap (λ r. is_ordered r) (range-read i h) ∙ le-leb (lowest_of block) (highest_of block) (lowest-highest block (block_long i h))))

  -- and the body begins where it was laid.
  sizes : (i : ℕ) → i ≤ n → bodies_size file i ≡ length (bodies_for values i)
  unfolding bodies_size
  sizes zero h = sym (ap length (bodies-none values))
  sizes (suc i) h =
      ap₂ (λ a e. a + e.length) (sizes i (omega arith)) (entry_read i h) ∙ sym (bodies_longer values i)

  start_is : (i : ℕ) → i ≤ n → body_start file i ≡ contents_size 2 n + length (bodies_for values i)
  unfolding body_start
  start_is i h = ap₂ ◌+◌ (ap₂ contents_size edition-is count-is) (sizes i h)

  body-split : (i : ℕ) → i < n → (rest : List ℕ) × (file ≡ (fronts values n n ++ bodies_for values i) ++ (body_for (block_at values i) ++ rest))
  unfolding bodies_for
  body-split i h =
      let r = joined_at n (λ b. body_for (block_at values b)) i h in
      let b : List ℕ = bodies_for values i in (
        r.0,
        file-is
            ∙ ap (λ x. fronts values n n ++ x) r.1
            ∙ sym (append_assoc (fronts values n n) b (body_for (block_at values i) ++ r.0)),
      )

  pub body-read : (i : ℕ) → i < n → body_of file i ≡ body_for (block_at values i)
  unfolding body_of
  body-read i h =
      let s = body-split i h in
      let front : List ℕ = fronts values n n ++ bodies_for values i in
      let body : List ℕ = body_for (block_at values i) in
      let at : length front ≡ body_start file i
      = length-append (fronts values n n) (bodies_for values i) ∙ ap (λ k. k + length (bodies_for values i)) (length-fronts values n n) ∙ sym (start_is i (omega arith)) in
      let size : length body ≡ (entry_of file i).length = body_sized (block_at values i) ∙ ap (λ e. e.length) (sym (entry_read i h)) in
      ap (λ l. take (entry_of file i).length (drop (body_start file i) l)) s.1
      ∙ ap (λ x. take (entry_of file i).length x) (drop_at front (body ++ s.0) (body_start file i) at)
      ∙ take_at body s.0 (entry_of file i).length size

  -- The contents are right,
  contents-right : Whole file (length file)
  contents-right = record {
    head = omega (arith, length-is, size-least 2 n);
    first = inr edition-is;
    few = omega (arith, count-is);
    room = omega (arith, length-is, ap₂ contents_size edition-is count-is);
    right = λ i h. entry-right i (omega (arith, count-is));
    end = ap (body_start file) count-is ∙ start_is n (omega arith) ∙ sym length-is;
  }

  -- no block has runs,
  runs-right : (i : ℕ) → i < count file → has_good_runs (entry_of file i) (body_of file i) ≡ true
  runs-right i h = ap (λ e. has_good_runs e (body_of file i)) (entry_read i (omega (arith, count-is))) ∙ chosen-runs (block_at values i) (body_of file i)

  -- each block is the block that was written,
  pub block_read : (i : ℕ) → i < n → block_in (file_of values) i ≡ block_at values i
  unfolding block_in body_for
  block_read i h =
      ap₂ (λ e b. block_of e b) (entry_read i h) (body-read i h) ∙ chosen-restores (block_at values i) (block_long i h) (block_fits i)

  -- its range is the true one,
  range-right : (i : ℕ) → i < count file → has_true_range file i ≡ true
  unfolding has_true_range
  range-right i h =
      let b : i < n = omega (arith, count-is) in
      ap (λ t. pick t (is_range (range_of file i) (block_in file i)) true) (eq-eqb (edition file) 2 edition-is)
      ∙ ap₂ (λ r l. is_range r l) (range-read i b) (block_read i b)
      ∙ range-is-true (block_at values i)

  -- so the file is accepted,
  runs-passed : bad_runs file ≡ count file
  unfolding bad_runs
  runs-passed = none_first (count file) _ runs-right

  ranges_passed : bad_range file ≡ count file
  unfolding bad_range
  ranges_passed = none_first (count file) (has_true_range file) range-right

  pub file-accepted : file_answer (file_tests (file_of values)) ≡ Ok tt
  file-accepted =
      done-both (contents_tests file (length file)) _ refl (accepts file (length file) contents-right)
      (passed _ _ (eq-eqb (bad_runs file) (count file) runs-passed) ∙ passed _ _ (eq-eqb (bad_range file) (count file) ranges_passed) ∙ none_left)

  -- and the rows are the numbers.
  pub rows-read : rows_of (file_of values) ≡ values
  unfolding rows_of row_at
  rows-read =
      ap (λ k. tab (1024 * k) (row_at file)) count-is
      ∙ sym (is-tab values (1024 * n) (row_at file) 0 (omega arith) row_is)
    where
      row_is : (p : ℕ) → p < 1024 * n → get_or values p 0 ≡ row_at file p
      row_is p h =
          let b : p / 1024 < n = omega arith in
          let q : p % 1024 < 1024 = omega arith in
          let at : (p / 1024) * 1024 + p % 1024 ≡ p = omega arith in
          ap (λ k. get_or values k 0) (sym at)
          ∙ sym (get_d_cut 1024 values (p / 1024) (p % 1024) 0 q)
          ∙ ap (λ l. get_or l (p % 1024) 0) (sym (block_read (p / 1024) b))
