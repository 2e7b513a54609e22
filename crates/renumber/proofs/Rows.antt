-- The rows of the new file, as the writer takes them: whole blocks, each of which is a block of the old file renumbered.
-- Where the next body of the new file begins; and what is known of the rows after a block of them.
-- Assumes nothing.
use mathlib.Core.Bool.{Bool, true}
use mathlib.Core.List.{List, map}
use mathlib.Core.Path.{◌≡◌, sym, ap, ◌∙◌}
use Prim.Native.Nat.{ℕ, ◌+◌, ◌-◌, ◌*◌, ◌≤◌, ◌<◌}
use native.Mathlib.Decide.{dec_lt}
use native.Mathlib.Nat.{add-zero, zero-add}
use native.Mathlib.Numerals.{add-one}
use native.Mathlib.Omega.{arith}
use lib.ListN.{length, get_or, length-map, length-append}
use Rattle.std.specs.Prelude.{Ok}
use Rattle.lists.specs.Numbers.{Elements}
use Rattle.lists.specs.Passing.{failing_from}
use Rattle.lists.specs.Parts.{cut}
use Rattle.lists.specs.Tab.{tab}
use Rattle.lists.proofs.Failing.{failing_append, failing_shift, failing_ext, failing_few}
use Rattle.lists.proofs.Parts.{length_cut, get_d_cut}
use Rattle.lists.proofs.Search.{first-before, first-at, first_only}
use Rattle.lists.proofs.Tabs.{is-tab}
use Rattle.contents.specs.Answers.{file_answer}
use Rattle.contents.specs.Contents.{count, contents_size}
use Rattle.candidates.specs.Candidates.{chosen}
use Rattle.files.specs.Files.{block_in, row_at, row_count, rows_of, runs_tests}
use Rattle.files.proofs.Rows.{rows-count, rows_block}
use Rattle.writer.specs.Writer.{block_count, block_at, bodies_for}
use Rattle.writer.proofs.Laying.{bodies_longer, length-file}
use Rattle.writer.proofs.FileRows as Old
use Rattle.compare.proofs.Lists.{get_d_map_in, row_of}
use Rattle.renumber.specs.InnerBlocks.{new_block, taken_in, changed_in}
use Rattle.renumber.specs.InnerPairs.{is_kept}
use Rattle.renumber.specs.Pairs.{renumbered, is_free}
use Rattle.renumber.specs.Renumber.{new_rows, new_file, changed_rows, taken_at}
use Rattle.renumber.proofs.Blocks.{length_block, block_tab}

module _ (old new l : List ℕ) where
  pub length-rows : length (new_rows old new l) ≡ length (rows_of l)
  unfolding new_rows
  length-rows = length-map (rows_of l) (renumbered old new)

  pub get_d_rows : (p : ℕ) → p < length (rows_of l) → get_or (new_rows old new l) p 0 ≡ renumbered old new (get_or (rows_of l) p 0)
  unfolding new_rows
  get_d_rows p h = get_d_map_in (renumbered old new) (rows_of l) p 0 0 h

  -- The rows are as many as those of the old file,
  pub rows_long : length (new_rows old new l) ≡ count l * 1024
  rows_long = omega (arith, length-rows, rows-count l)

  pub rows_blocks : block_count (new_rows old new l) ≡ count l
  rows_blocks = omega (arith, rows_long)

  -- and the new file has this length.
  pub length-new : length (new_file old new l) ≡ contents_size 2 (count l) + length (bodies_for (new_rows old new l) (count l))
  length-new =
      length-file (new_rows old new l) ∙ ap (λ n. contents_size 2 n + length (bodies_for (new_rows old new l) n)) rows_blocks

  -- After all blocks no row is taken
  pub none-taken : (n : ℕ) → n ≡ count l → ((p : ℕ) → p < n * 1024 → is_free old new (row_at l p) ≡ true) → n * 1024 ≡ taken_at old new l
  unfolding taken_at
  none-taken n all before =
      first_only (row_count l) (n * 1024) (λ p. is_free old new (row_at l p)) (omega arith) before (λ h. absurd (omega arith))

  -- and these change.
  pub all_changed : (n : ℕ) → n ≡ count l → length (failing_from 0 (n * 1024) (λ p. is_kept old new (row_at l p))) ≡ length (changed_rows old new l)
  unfolding changed_rows
  all_changed n all =
      let e : n * 1024 ≡ 1024 * count l = omega arith in ap (λ m. length (failing_from 0 m (λ p. is_kept old new (row_at l p)))) e

  pub changed-few : (n : ℕ) → length (failing_from 0 n (λ p. is_kept old new (row_at l p))) ≤ n
  changed-few n = failing_few 0 n (λ p. is_kept old new (row_at l p))

-- Of a block of a file that is right up to its run indices:
module _ (old new l : List ℕ) (runs : file_answer (runs_tests l) ≡ Ok tt) (bytes : Elements 8 l) (i : ℕ) (h : i < count l) where
  old_long : length (block_in l i) ≡ 1024
  old_long = (Old.runs_block l runs bytes i h).0

  pub block_long : length (new_block old new (block_in l i)) ≡ 1024
  block_long = length_block old new (block_in l i) ∙ old_long

  -- A block of them is a block of the old file, renumbered.
  pub block_at_lem : block_at (new_rows old new l) i ≡ new_block old new (block_in l i)
  block_at_lem =
      is-tab (cut 1024 (new_rows old new l) i) 1024 (λ k. renumbered old new (get_or (block_in l i) k 0)) 0
      (length_cut 1024 (new_rows old new l) i (omega (arith, rows_long old new l)))
      (λ k m.
      get_d_cut 1024 (new_rows old new l) i k 0 m
      ∙ get_d_rows old new l (i * 1024 + k) (omega (arith, rows-count l))
      ∙ ap (renumbered old new)
      (sym (get_d_cut 1024 (rows_of l) i k 0 m) ∙ ap (λ b. get_or b k 0) (rows_block l i h old_long)))
      ∙ ap (λ n. tab n (λ k. renumbered old new (get_or (block_in l i) k 0))) (sym old_long)
      ∙ sym (block_tab old new (block_in l i))

  -- One body more of the new file.
  pub body-next : length (bodies_for (new_rows old new l) (i + 1))
      ≡ length (bodies_for (new_rows old new l) i) + (chosen (new_block old new (block_in l i))).entry.length
  body-next =
      ap (λ k. length (bodies_for (new_rows old new l) k)) (add-one i)
      ∙ bodies_longer (new_rows old new l) i
      ∙ ap (λ b. length (bodies_for (new_rows old new l) i) + (chosen b).entry.length) block_at_lem

  -- The rows that change, a block more.
  pub changed-next : length (failing_from 0 ((i + 1) * 1024) (λ p. is_kept old new (row_at l p)))
      ≡ length (failing_from 0 (i * 1024) (λ p. is_kept old new (row_at l p))) + length (changed_in old new (block_in l i))
  unfolding changed_in
  changed-next =
      let test : ℕ → Bool = λ p. is_kept old new (row_at l p) in
      let more : (i + 1) * 1024 ≡ i * 1024 + 1024 = omega arith in
      let here : failing_from (0 + i * 1024) 1024 test ≡ map (λ p. i * 1024 + p) (failing_from 0 1024 (λ k. is_kept old new (get_or (block_in l i) k 0))) =
      ap (λ s. failing_from s 1024 test) (zero-add (i * 1024) ∙ sym (add-zero (i * 1024)))
      ∙ failing_shift (i * 1024) 0 1024 test
      ∙ ap (map (λ p. i * 1024 + p))
      (failing_ext 0 1024 (λ p. test (i * 1024 + p)) (λ k. is_kept old new (get_or (block_in l i) k 0))
      (λ k _ b. ap (is_kept old new) (row_of l i k (omega arith)))) in
      ap (λ n. length (failing_from 0 n test)) more
      ∙ ap length (failing_append 0 (i * 1024) 1024 test)
      ∙ length-append (failing_from 0 (i * 1024) test) (failing_from (0 + i * 1024) 1024 test)
      ∙ ap (λ n. length (failing_from 0 (i * 1024) test) + n)
      (ap length here
      ∙ length-map (failing_from 0 1024 (λ k. is_kept old new (get_or (block_in l i) k 0))) (λ p. i * 1024 + p)
      ∙ ap (λ n. length (failing_from 0 n (λ k. is_kept old new (get_or (block_in l i) k 0)))) (sym old_long))

  module _ (before : (p : ℕ) → p < i * 1024 → is_free old new (row_at l p) ≡ true) where
    -- Up to the lowest taken place of the block no row is taken.
    free-before : (m : ℕ) → m ≤ 1024 → m ≤ taken_in old new (block_in l i) → (p : ℕ) → p < i * 1024 + m → is_free old new (row_at l p) ≡ true
    unfolding taken_in
    free-before m few none p b =
        elim (dec_lt p (i * 1024)) [
          | yes low ↦ before p low
          | no high ↦
              let at : p ≡ i * 1024 + (p - i * 1024) = omega arith in
              ap (λ p. is_free old new (row_at l p)) at
              ∙ ap (is_free old new) (row_of l i (p - i * 1024) (omega arith))
              ∙ first-before (length (block_in l i)) (λ k. is_free old new (get_or (block_in l i) k 0)) (p - i * 1024) (omega arith)
        ]

    -- A block in which no place is taken: no row up to its end is.
    pub free-next : 1024 ≤ taken_in old new (block_in l i) → (p : ℕ) → p < (i + 1) * 1024 → is_free old new (row_at l p) ≡ true
    free-next none p b = free-before 1024 (omega arith) none p (omega arith)

    -- A block in which one is: it is the lowest row of the file.
    pub row-taken : (m : ℕ) → m ≡ taken_in old new (block_in l i) → m < 1024 → i * 1024 + m ≡ taken_at old new l
    unfolding taken_in taken_at
    row-taken m found some =
        let long = old_long in
        first_only (row_count l) (i * 1024 + m) (λ p. is_free old new (row_at l p)) (omega arith)
        (free-before m (omega arith) (omega arith))
        (λ _.
        ap (is_free old new) (row_of l i m some)
        ∙ ap (λ k. is_free old new (get_or (block_in l i) k 0)) found
        ∙ first-at (length (block_in l i)) (λ k. is_free old new (get_or (block_in l i) k 0)) (omega arith))
