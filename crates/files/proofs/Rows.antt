-- The rows of a file (R85, R97): an accepted file has exactly 1,024 rows for each block, row p is place p mod 1,024 of
-- block p / 1,024, and the lookup of a row gives what one block out leaves at that place. Then the two worked files of
-- R88, in edition 1.
-- Assumes nothing.
use Rattle.std.specs.Prelude.{Result, Ok, Err}
use Rattle.std.proofs.Common.{◌≡◌, ℕ, ◌+◌, ◌*◌, ◌/◌, ◌%◌, ◌^◌, ◌<◌, ◌≤◌, Bool, true, false, ltb, List, [], ◌∷◌, length, get_or, sym, refl, ap, ◌∙◌, subst, ap₂, arith, le-ltb, lt-ltb}
use Rattle.lists.specs.Pick.{pick}
use Rattle.lists.specs.Numbers.{plus, Elements}
use Rattle.lists.specs.Parts.{cut}
use Rattle.lists.specs.Tab.{tab, tab_from}
use Rattle.lists.specs.Search.{first_failing, first_bad}
use Rattle.lists.proofs.Digits.{elements-of}
use Rattle.lists.proofs.Parts.{length_cut, get_d_cut}
use Rattle.lists.proofs.Tabs.{get_d_tab, length-tab, is-tab, tab_get_d}
use Rattle.places.specs.declared.Answer.TheVariants.{Done as NoRefusal}
use Rattle.places.specs.Sizes.{t64}
use Rattle.packing.specs.Packed.{value_at}
use Rattle.packing.proofs.Rounds.{value-zero}
use Rattle.access.specs.declared.Single.{Single}
use Rattle.access.specs.Singles as single
use Rattle.access.specs.Calls.{single, single_of}
use Rattle.access.specs.Counts.{count_at, words_at}
use Rattle.access.proofs.Answers.{index_in, single-good}
use Rattle.access.proofs.Counts.{a_place}
use Rattle.deltas.specs.Deltas.{unfor_pack_of}
use Rattle.little.specs.Little.{little}
use Rattle.contents.specs.declared.Entry.{Entry}
use Rattle.contents.specs.declared.FileRefusal.{FileRefusal}
use Rattle.contents.specs.Answers.{FileAnswer, answer_of, giving, file_answer, left}
use Rattle.contents.proofs.Answers.{says_answer, left-err}
use Rattle.contents.specs.Contents.{count, entry_size, contents_size, entry_of, range_of, is_of_kind, is_laid_out, is_right, bad_entry, bodies_size, body_start}
use Rattle.bodies.specs.Bodies.{packed_from, block_of, has_good_runs}
use Rattle.bodies.proofs.Blocks.{packed_value}
use Rattle.bodies.proofs.Bodies.{length-numbers, laid_plain}
use Rattle.files.specs.declared.Row.{Row}
use Rattle.files.specs.Files.{body_of, bad_runs, has_true_range, bad_range, block_in, row_count, row_at, rows_of, file_tests, row_tests, block_out_leaves}
use Rattle.files.specs.Rows.{counted, uncounted, value_of, given, row_of}
use Rattle.files.proofs.Calls.{row-as_block, row_laid, row_done, block_done}
use Rattle.files.proofs.Ranges.{file_block}

module _ (l : List ℕ) where
  -- A file has 1,024 rows for each of its blocks.
  pub rows-count : length (rows_of l) ≡ 1024 * count l
  unfolding rows_of
  rows-count = length-tab (row_count l) (row_at l)

  -- Row p is place p mod 1,024 of block p / 1,024.
  pub row-place : (p : ℕ) → p < 1024 * count l → get_or (rows_of l) p 0 ≡ get_or (block_in l (p / 1024)) (p % 1024) 0
  unfolding rows_of row_at
  row-place p h = get_d_tab (row_count l) (λ p. get_or (block_in l (p / 1024)) (p % 1024) 0) p 0 h

  -- So 1,024 rows are a block,
  pub rows_block : (i : ℕ) → i < count l → length (block_in l i) ≡ 1024 → cut 1024 (rows_of l) i ≡ block_in l i
  rows_block i h long =
      is-tab (cut 1024 (rows_of l) i) 1024 (λ k. get_or (block_in l i) k 0) 0 (length_cut 1024 (rows_of l) i (omega (arith, rows-count)))
      (λ k m.
      let b : (i * 1024 + k) / 1024 ≡ i = omega arith in
      let q : (i * 1024 + k) % 1024 ≡ k = omega arith in
      get_d_cut 1024 (rows_of l) i k 0 m
      ∙ row-place (i * 1024 + k) (omega arith)
      ∙ ap₂ (λ b q. get_or (block_in l b) q 0) b q)
      ∙ tab_get_d (block_in l i) 0 1024 long

  -- and in an accepted file of bytes every row is a number of 64 bits.
  pub rows_fit : Elements 8 l → file_answer (file_tests l) ≡ Ok tt → Elements t64 (rows_of l)
  rows_fit bytes done =
      elements-of t64 (1024 * count l) (rows_of l) rows-count
      (λ p h. subst (λ v. v < 2 ^ t64) (sym (row-place p h)) ((file_block l bytes done (p / 1024) (omega arith)).1 (p % 1024)))

  -- In an accepted file the lookup of a row gives that row, which is what one block out leaves at its place.
  pub row_block : file_answer (file_tests l) ≡ Ok tt → (p : ℕ) → p < 1024 * count l → (output : List ℕ) → length output ≡ 1024
      → (row_of l p ≡ Ok (given (entry_of l (p / 1024)) (p % 1024) (get_or (rows_of l) p 0)))
      × (row_of l p ≡ Ok (given (entry_of l (p / 1024)) (p % 1024) (get_or (block_out_leaves l (p / 1024) output) (p % 1024) 0)))
  unfolding block_out_leaves row_at
  row_block done p h output e =
      let out = block_done l (p / 1024) output e done (omega arith) in
      let given-as : ℕ → Result Row FileRefusal = λ v. Ok (given (entry_of l (p / 1024)) (p % 1024) v) in
      let looked : row_of l p ≡ given-as (get_or (block_in l (p / 1024)) (p % 1024) 0) = row_done l p (row-as_block l p output e ∙ out) in (
        looked ∙ ap given-as (sym (row-place p h)),
        looked ∙ ap (λ a. given-as (get_or (left a (block_in l (p / 1024)) output) (p % 1024) 0)) (sym out),
      )

-- What is read off the lookup of a row: the answer is that of its tests, and the value is the row where it is done, and
-- else 0.
given-value : (e : Entry) (place v : ℕ) → (given e place v).value ≡ v
given-value e place v = go (ltb e.kind 2)
  where
    go : (b : Bool) → (pick b (counted v (count_at t64 e.width place)) (uncounted v)).value ≡ v
    go true = refl
    go false = refl

module _ (l : List ℕ) (p : ℕ) where
  found : Row
  found = given (entry_of l (p / 1024)) (p % 1024) (row_at l p)

  pub row_answers : answer_of (row_of l p) ≡ file_answer (row_tests l p)
  unfolding row_of found
  row_answers = says_answer (file_answer (row_tests l p)) found

  pub row_values : value_of (row_of l p) ≡ left (file_answer (row_tests l p)) (row_at l p) 0
  unfolding row_of found
  row_values = go (file_answer (row_tests l p))
    where
      go : (a : FileAnswer) → value_of (giving a found) ≡ left a (row_at l p) 0
      go (Ok _) = given-value (entry_of l (p / 1024)) (p % 1024) (row_at l p)
      go (Err r) = sym (left-err r (row_at l p) 0)

-- A row that is there has a count where its block is of kind 0 or 1, and none where it is of kind 2 or 3.
module _ (l : List ℕ) (p : ℕ) (done : file_answer (row_tests l p) ≡ Ok tt) where
  -- its entry, the width of a packed block or of a frame, and the words of its body
  e : Entry
  e = entry_of l (p / 1024)

  pub words : List ℕ
  words = packed_from (body_of l (p / 1024)) 0 (entry_of l (p / 1024)).width

  with-count : e.kind < 2 → row_of l p ≡ Ok (counted (row_at l p) (count_at t64 e.width (p % 1024)))
  unfolding e
  with-count kind = row_done l p done ∙ rw (lt-ltb (entry_of l (p / 1024)).kind 2 kind)

  -- The count is what `words_at` says.
  pub row-counted : (entry_of l (p / 1024)).kind < 2 → row_of l p ≡ Ok (counted (row_at l p) (words_at t64 (entry_of l (p / 1024)).width (p % 1024)))
  unfolding e
  row-counted kind =
      with-count kind
      ∙ ap (λ n. Ok (counted (row_at l p) n)) (a_place t64 e.width (p % 1024) (laid_plain e (row_laid l p done) kind).0 (omega arith))

  -- Value and count are those of single access at the row's place in the words of its body, and the reference is added
  -- to the value.
  pub row-single : (entry_of l (p / 1024)).kind < 2
      → (found : Single ℕ) → found ≡ single_of Single.Value Single.Refused t64 (entry_of l (p / 1024)).width words (p % 1024)
      → (single.answer_of found ≡ NoRefusal)
      × (row_of l p ≡ Ok (counted (plus t64 (single.value_of found) (entry_of l (p / 1024)).reference) (single.words_of found)))
  unfolding e words row_at block_in
  row-single kind found is =
      let w = e.width in
      let body = body_of l (p / 1024) in
      let q = p % 1024 in
      let small : q < 1024 = omega arith in
      let laid = row_laid l p done in
      let plain = laid_plain e laid kind in
      let single-is : found ≡ Single.Value (value_at t64 w words q) (count_at t64 w q)
      = is
      ∙ sym (single-good Single.Value Single.Refused t64 w words q plain.0 (length-numbers 8 body (16 * w)))
      ∙ ap (λ a. single Single.Value Single.Refused a (value_at t64 w words q) (count_at t64 w q)) (index_in q small) in (
        ap single.answer_of single-is,
        with-count kind
            ∙ ap₂ (λ v n. Ok (counted v n))
            (packed_value e body laid kind q small ∙ ap (λ f. plus t64 (single.value_of f) e.reference) (sym single-is))
            (ap single.words_of (sym single-is)),
      )

  pub row_uncounted : 2 ≤ (entry_of l (p / 1024)).kind → row_of l p ≡ Ok (uncounted (row_at l p))
  row_uncounted kind = row_done l p done ∙ rw (le-ltb (entry_of l (p / 1024)).kind 2 kind)

-- ---- the worked files

-- No blocks: 01 00 00 00.
abbrev pub no_blocks_lem : List ℕ
no_blocks_lem = 1 ∷ 0 ∷ 0 ∷ 0 ∷ []

-- One block of sevens, kind 1, width 0: 01 00 01 00, 01 00 00 00 00 00 00 00, 07 and seven zeros.
abbrev pub one_of_sevens : List ℕ
one_of_sevens = 1 ∷ 0 ∷ 1 ∷ 0 ∷ 1 ∷ 0 ∷ 0 ∷ 0 ∷ 0 ∷ 0 ∷ 0 ∷ 0 ∷ 7 ∷ 0 ∷ 0 ∷ 0 ∷ 0 ∷ 0 ∷ 0 ∷ 0 ∷ []

-- Both are accepted.
pub worked_accepted : (file_answer (file_tests no_blocks_lem) ≡ Ok tt) × (file_answer (file_tests one_of_sevens) ≡ Ok tt)
unfolding file_answer little entry_size contents_size bad_entry bad_runs bad_range first_bad first_failing tab tab_from is_right is_laid_out is_of_kind entry_of range_of body_start bodies_size has_good_runs has_true_range
worked_accepted = (refl, refl)

-- The first has no rows,
pub worked_none : rows_of no_blocks_lem ≡ []
unfolding rows_of tab tab_from little
worked_none = refl

-- and every row of the second is 7.
pub worked_sevens : (length (rows_of one_of_sevens) ≡ 1024) × ((p : ℕ) → p < 1024 → get_or (rows_of one_of_sevens) p 0 ≡ 7)
unfolding little entry_size contents_size block_in block_of entry_of unfor_pack_of plus
worked_sevens = (
  rows-count one_of_sevens,
  λ p h.
      let b : p / 1024 ≡ 0 = omega arith in
      let m : p % 1024 ≡ p = omega arith in
      row-place one_of_sevens p (omega arith)
      ∙ ap₂ (λ b m. get_or (block_in one_of_sevens b) m 0) b m
      ∙ get_d_tab 1024 _ p 0 h
      ∙ ap (λ v. (v + 7) % 2 ^ 64) (value-zero t64 _ p),
)
