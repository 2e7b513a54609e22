-- A block that is not opened cannot change the answer: two files that differ only in the bodies of such blocks give the
-- same answer and leave the same rows.
-- Assumes nothing.
use Rattle.std.specs.Prelude.{Err}
use Rattle.std.proofs.Common.{◌≡◌, ℕ, zero, suc, ◌+◌, ◌*◌, ◌/◌, ◌%◌, ◌<◌, ◌≤◌, Bool, true, false, eqb, leb, List, [], ◌∷◌, ◌++◌, length, get_or, sym, refl, ap, ◌∙◌, ap₂, arith, ne_eqb}
use native.Mathlib.Decide.{ℕ_discrete}
use Rattle.lists.specs.Pick.{pick, both, either}
use Rattle.lists.specs.Tab.{over}
use Rattle.lists.specs.Search.{first_bad}
use Rattle.lists.specs.Passing.{passing}
use Rattle.lists.proofs.Search.{first_ext}
use Rattle.lists.proofs.Passing.{passing_ext}
use Rattle.little.specs.Little.{little}
use Rattle.contents.specs.declared.FileRefusal.TheVariants.{BadEntry, Cut, Edition, Over, Range, Room, Runs}
use Rattle.contents.specs.Answers.{giving, file_answer, left}
use Rattle.contents.specs.Contents.{edition, count, contents_size, entry_at, entry_of, range_at_lem, range_of, any_range, is_laid_out, is_taken_in, is_ordered, is_right, bad_entry, bodies_size, body_start, contents_tests}
use Rattle.contents.proofs.Sizes.{size-entry, size-range, size-before}
use Rattle.bodies.specs.Bodies.{block_of, has_good_runs}
use Rattle.bodies.specs.Ranges.{is_range}
use Rattle.files.specs.Files.{body_of, block_in, has_true_range, row_count, row_at}
use Rattle.search.specs.Search.{counts, between, meets, opens, opened, listed, found, bad_runs_in, bad_range_in, search_tests, found_of, search_leaves}
use Rattle.search.specs.Unopened.{SameOpened}

-- A number is the same where its bytes are.
little-same : (l m : List ℕ) (k at n : ℕ) → at + n ≤ k → ((j : ℕ) → j < k → get_or m j 0 ≡ get_or l j 0) → little m at n ≡ little l at n
unfolding little
little-same l m k at zero h same = refl
little-same l m k at (suc n) h same = ap₂ (λ x y. x + y * 256) (same at (omega arith)) (little-same l m k (suc at) n (omega arith) same)

module _ (l m : List ℕ) (low high : ℕ) (same : SameOpened l m low high) where
  abbrev size : ℕ
  size = contents_size (edition l) (count l)

  -- The contents are read alike.
  number_same : (at n : ℕ) → at + n ≤ size → little m at n ≡ little l at n
  number_same at n h = little-same l m size at n h same.contents

  head_in : 4 ≤ size
  unfolding contents_size
  head_in = omega arith

  edition-same : edition m ≡ edition l
  edition-same = number_same 0 2 (omega (arith, head_in))

  count_same : count m ≡ count l
  count_same = number_same 2 2 (omega (arith, head_in))

  module _ (i : ℕ) (h : i < count l) where
    abbrev at : ℕ
    at = contents_size (edition l) i

    entry_in : at + 16 ≤ size
    entry_in = omega (arith, size-entry (edition l) i, size-before (edition l) i (count l) h)

    entry-same : entry_of m i ≡ entry_of l i
    unfolding entry_of
    entry-same =
        ap (λ e. entry_at m (contents_size e i)) edition-same
        ∙ (λ j. record {
          kind = same.contents at (omega (arith, entry_in)) j;
          width = same.contents (at + 1) (omega (arith, entry_in)) j;
          zero = number_same (at + 2) 2 (omega (arith, entry_in)) j;
          length = number_same (at + 4) 4 (omega (arith, entry_in)) j;
          reference = number_same (at + 8) 8 (omega (arith, entry_in)) j;
        })

    range_same : range_of m i ≡ range_of l i
    unfolding range_of
    range_same =
        ap (λ e. pick (eqb e 2) (range_at_lem m (contents_size e i + 16)) any_range) edition-same
        ∙ elim (ℕ_discrete (edition l) 2) [
          | yes second ↦
              let there = size-range (edition l) i second in
              let inside = size-before (edition l) i (count l) h in
              ap (λ r. pick (eqb (edition l) 2) r any_range)
              (λ j. record { smallest = number_same (at + 16) 8 (omega arith) j; largest = number_same (at + 16 + 8) 8 (omega arith) j })
          | no other ↦
              ap (λ t. pick t (range_at_lem m (at + 16)) any_range) (ne_eqb (edition l) 2 other)
              ∙ sym (ap (λ t. pick t (range_at_lem l (at + 16)) any_range) (ne_eqb (edition l) 2 other))
        ]

    right-same : is_right m i ≡ is_right l i
    unfolding is_right
    right-same j = both (is_laid_out (entry-same j)) (both (is_taken_in (edition-same j) (entry-same j)) (is_ordered (range_same j)))

    opens-same : opens m low high i ≡ opens l low high i
    unfolding opens
    opens-same = ap₂ (λ e r. either (eqb e 1) (meets r low high)) edition-same range_same

  sizes_same : (n : ℕ) → n ≤ count l → bodies_size m n ≡ bodies_size l n
  unfolding bodies_size
  sizes_same zero h = refl
  sizes_same (suc n) h = ap₂ ◌+◌ (sizes_same n (omega arith)) (ap (λ e. e.length) (entry-same n (omega arith)))

  end_same : body_start m (count m) ≡ body_start l (count l)
  unfolding body_start
  end_same = ap₂ ◌+◌ (ap₂ contents_size edition-same count_same) (ap (bodies_size m) count_same ∙ sizes_same (count l) (omega arith))

  bad_same : bad_entry m ≡ bad_entry l
  unfolding bad_entry
  bad_same = ap (λ n. first_bad n (is_right m)) count_same ∙ first_ext (count l) (is_right m) (is_right l) right-same

  -- So they have the same tests of the contents,
  contents-same : contents_tests m (length m) ≡ contents_tests l (length l)
  contents-same j =
      (leb 4 (same.size j), Err Cut)
      ∷ (both (either (eqb (edition-same j) 1) (eqb (edition-same j) 2)) (leb (count_same j) 256), Err Edition)
      ∷ (leb (contents_size (edition-same j) (count_same j)) (same.size j), Err Cut)
      ∷ (eqb (bad_same j) (count_same j), Err (BadEntry (bad_same j)))
      ∷ (leb (end_same j) (same.size j), Err Cut)
      ∷ (leb (same.size j) (end_same j), Err Over)
      ∷ []

  -- the same opened blocks, which are alike,
  by_opened : (i : ℕ) → i < count l → (x y : Bool) → (opens l low high i ≡ true → x ≡ y) → pick (opens m low high i) x true ≡ pick (opens l low high i) y true
  by_opened i h x y e = ap (λ t. pick t x true) (opens-same i h) ∙ go (opens l low high i) refl
    where
      go : (t : Bool) → opens l low high i ≡ t → pick t x true ≡ pick t y true
      go true o = e o
      go false o = refl

  runs_same : bad_runs_in m low high ≡ bad_runs_in l low high
  unfolding bad_runs_in
  runs_same =
      ap (λ n. first_bad n (λ i. pick (opens m low high i) (has_good_runs (entry_of m i) (body_of m i)) true)) count_same
      ∙ first_ext (count l) _ _ (λ i h. by_opened i h _ _ (λ o. ap₂ has_good_runs (entry-same i h) (same.bodies i h o)))

  block_same : (i : ℕ) → i < count l → opens l low high i ≡ true → block_in m i ≡ block_in l i
  unfolding block_in
  block_same i h o = ap₂ block_of (entry-same i h) (same.bodies i h o)

  ranges_same : bad_range_in m low high ≡ bad_range_in l low high
  unfolding bad_range_in has_true_range
  ranges_same =
      ap (λ n. first_bad n (λ i. pick (opens m low high i) (has_true_range m i) true)) count_same
      ∙ first_ext (count l) _ _
      (λ i h. by_opened i h _ _
      (λ o. ap (λ e. pick (eqb e 2) (is_range (range_of m i) (block_in m i)) true) edition-same
      ∙ ap (λ b. pick (eqb (edition l) 2) b true) (ap₂ is_range (range_same i h) (block_same i h o))))

  -- and the same rows.
  listed_same : (p : ℕ) → p < row_count l → listed m low high p ≡ listed l low high p
  unfolding listed row_at
  listed_same p h =
      let b : p / 1024 < count l = omega arith in
      ap (λ t. both t (between low high (get_or (block_in m (p / 1024)) (p % 1024) 0))) (opens-same (p / 1024) b)
      ∙ go (opens l low high (p / 1024)) refl
    where
      go : (t : Bool) → opens l low high (p / 1024) ≡ t
          → both t (between low high (get_or (block_in m (p / 1024)) (p % 1024) 0)) ≡ both t (between low high (get_or (block_in l (p / 1024)) (p % 1024) 0))
      go true o = ap (λ x. between low high (get_or x (p % 1024) 0)) (block_same (p / 1024) (omega arith) o)
      go false o = refl

  found-same : found m low high ≡ found l low high
  unfolding found
  found-same =
      ap (λ n. passing 0 (1024 * n) (listed m low high)) count_same
      ∙ passing_ext 0 (row_count l) (listed m low high) (listed l low high) (λ p _ h. listed_same p (omega arith))

  opened-same : opened m low high ≡ opened l low high
  unfolding opened
  opened-same =
      ap (λ n. passing 0 n (opens m low high)) count_same
      ∙ passing_ext 0 (count l) (opens m low high) (opens l low high) (λ i _ h. opens-same i (omega arith))

  module _ (rows : List ℕ) where
    answer-same : file_answer (search_tests m low high rows) ≡ file_answer (search_tests l low high rows)
    answer-same j =
        file_answer
        (contents-same j
        ++ (((eqb (runs_same j) (count_same j), Err (Runs (runs_same j))) ∷ (eqb (ranges_same j) (count_same j), Err (Range (ranges_same j))) ∷ []) ++ ((leb (length (found-same j)) (length rows), Err Room) ∷ [])))

    pub unopened_answer : found_of m low high rows ≡ found_of l low high rows
    unfolding found_of
    unopened_answer j = giving (answer-same j) (counts (length (found-same j)) (length (opened-same j)))

    pub unopened_rows : search_leaves m low high rows ≡ search_leaves l low high rows
    unfolding search_leaves
    unopened_rows j = left (answer-same j) (over 0 (found-same j) rows) rows
