-- The first walk over the bodies of a file: after each body every range up to there is true and no row taken, the sums are
-- what the new file has up to there, and what the blocks up to there are laid down by is kept.
-- Assumes nothing.
use mathlib.Core.Bool.{Bool, true, false}
use mathlib.Core.List.{List}
use mathlib.Core.Path.{◌≡◌, refl, sym, ap, ap₂, ◌∙◌}
use Prim.Native.Nat.{ℕ, ◌+◌, ◌*◌, ◌≤◌, ◌<◌}
use native.Mathlib.Decide.{dec_lt}
use native.Mathlib.Omega.{arith}
use lib.Dec.{eqb}
use lib.ListN.{length, get_or, set, length-set}
use lib.Seq.{get_or-set_same, get_or-set_other}
use borrow.Author.Tests.{eq-eqb, eqb-true}
use Rattle.std.specs.Prelude.{Ok}
use Rattle.lists.specs.Numbers.{Elements}
use Rattle.lists.specs.Passing.{failing_from, passing}
use Rattle.lists.specs.Pick.{pick, both}
use Rattle.lists.proofs.Failing.{failing_few}
use Rattle.lists.proofs.Search.{first_only}
use Rattle.lists.proofs.Tests.{both_true}
use Rattle.contents.specs.Answers.{file_answer}
use Rattle.contents.specs.Contents.{count, entry_size, contents_size}
use Rattle.bodywise.specs.declared.Body.{Body}
use Rattle.bodywise.specs.Cursor.{first_body, next_body}
use Rattle.bodywise.proofs.Walking.{Walking, file-first, file-zero, file-number, file-next, file-passed}
use Rattle.candidates.proofs.Choice.{chosen_short}
use Rattle.files.specs.Files.{block_in, row_at, has_true_range, bad_range, runs_tests}
use Rattle.files.proofs.Ranges.{contents-right, file_ranges, ranges_done, ranges_true}
use Rattle.writer.specs.InnerKept.{Kept}
use Rattle.writer.specs.Writer.{bodies_for}
use Rattle.writer.proofs.FileRows.{runs-few, runs_block}
use Rattle.writer.proofs.Keeping.{kept_next, kept_length}
use Rattle.writer.proofs.Laying.{bodies-none, bodies_short}
use Rattle.renumber.specs.declared.Found.{Found}
use Rattle.renumber.specs.InnerBlocks.{new_block, taken_in, changed_in, kept_with, Counted, BlockFound, FileFound}
use Rattle.renumber.specs.InnerPairs.{Paired, is_kept}
use Rattle.renumber.specs.Pairs.{is_free}
use Rattle.renumber.specs.Renumber.{new_rows}
use Rattle.renumber.proofs.Blocks.{taken-within}
use Rattle.renumber.proofs.Rows.{length-new, body-next, changed-next, free-next, row-taken, none-taken, all_changed, changed-few}

-- So far the walk has come: n blocks in all, the bytes of the new file, the rows that change, the body that is next, the
-- room for a block, and what was kept.
pub record Measuring (old new l : List ℕ) (n size changed : ℕ) (b : Body) (block kept counts : List ℕ) : Type 0 where
  pub walk : Walking l b
  pub all : n ≡ count l
  pub sized : size ≡ contents_size 2 n + length (bodies_for (new_rows old new l) b.number)
  pub counted : changed ≡ length (failing_from 0 (b.number * 1024) (λ p. is_kept old new (row_at l p)))
  pub free : (p : ℕ) → p < b.number * 1024 → is_free old new (row_at l p) ≡ true
  pub ranged : (k : ℕ) → k < b.number → has_true_range l k ≡ true
  pub block_long : length block ≡ 1024
  pub kept_long : length kept ≡ 768
  pub kept_of : Kept (λ i. new_block old new (block_in l i)) kept b.number
  pub counts_long : length counts ≡ 256
  pub counts_of : Counted old new l counts b.number

-- One count more is kept.
module _ (old new l counts : List ℕ) (n : ℕ) where
  counted_next : Counted old new l counts n → n < length counts → {after : List ℕ} → after ≡ set counts n (length (changed_in old new (block_in l n)))
      → Counted old new l after (n + 1)
  counted_next before room {after} is i h =
      let count : ℕ = length (changed_in old new (block_in l n)) in
      elim (dec_lt i n) [
        | yes first ↦ ap (λ x. get_or x i 0) is ∙ get_or-set_other counts n i count 0 (λ e. omega arith) ∙ before i first
        | no last ↦
            let here : i ≡ n = omega arith in
            ap₂ (λ x k. get_or x k 0) is here ∙ get_or-set_same counts n count 0 room ∙ ap (λ k. length (changed_in old new (block_in l k))) (sym here)
      ]

-- A test cannot be both.
not-both : {b : Bool} → b ≡ true → b ≡ false → ⊥
not-both is not = let z : ◌≡◌ {A = ℕ} 1 0 = ap (λ b. pick b 1 0) (sym is ∙ not) in omega arith

module _ (old new l : List ℕ) (runs : file_answer (runs_tests l) ≡ Ok tt) where
  pub measuring_first : {b : Body} → b ≡ first_body l → {n : ℕ} → n ≡ count l → {block kept counts : List ℕ}
      → length block ≡ 1024 → length kept ≡ 768 → length counts ≡ 256 → Measuring old new l n (4 + n * 32) 0 b block kept counts
  unfolding contents_size entry_size failing_from passing
  measuring_first {b} begun {n} all {block} {kept} {counts} block_long kept_long counts_long =
      let right = contents-right l runs in
      let zero = file-zero l right begun in
      record {
        walk = file-first l right begun;
        all = all;
        sized = omega (arith, ap (λ i. length (bodies_for (new_rows old new l) i)) zero, ap length (bodies-none (new_rows old new l)));
        counted = sym (ap (λ i. length (failing_from 0 (i * 1024) (λ p. is_kept old new (row_at l p)))) zero);
        free = λ p h. absurd (omega (arith, zero));
        ranged = λ k h. absurd (omega (arith, zero));
        block_long = block_long;
        kept_long = kept_long;
        kept_of = λ k h. absurd (omega (arith, zero));
        counts_long = counts_long;
        counts_of = λ k h. absurd (omega (arith, zero));
      }

  module _ {n size changed : ℕ} {b : Body} {block kept counts : List ℕ} (so : Measuring old new l n size changed b block kept counts) where
    -- The sums are small.
    pub size_small : size ≤ 8196 + 8192 * 256
    unfolding contents_size entry_size
    size_small = omega (arith, so.sized, so.all, runs-few l runs, so.walk.within, bodies_short (new_rows old new l) b.number)

    pub changed-small : changed ≤ 1024 * 256
    changed-small = omega (arith, so.counted, changed-few old new l (b.number * 1024), so.walk.within, runs-few l runs)

    pub number_small : b.number ≤ 256
    number_small = omega (arith, so.walk.within, runs-few l runs)

    module _ (bytes : Elements 8 l) (more : b.number < n) {m : Found} (one : BlockFound old new l b.number m) where
      there : b.number < count l
      there = omega (arith, so.all)

      long : length (block_in l b.number) ≡ 1024
      long = (runs_block l runs bytes b.number there).0

      -- What is found of one block is small.
      pub one_sized : m.size ≤ 8192
      one_sized = omega (arith, one.size, chosen_short (new_block old new (block_in l b.number)))

      pub one-changed : m.changed ≤ 1024
      unfolding changed_in
      one-changed =
          omega (arith, one.changed, long, failing_few 0 (length (block_in l b.number)) (λ k. is_kept old new (get_or (block_in l b.number) k 0)))

      pub one-taken : m.taken ≤ 1024
      one-taken = omega (arith, one.taken, long, taken-within old new (block_in l b.number))

      -- The next block does not pass: where no range is false it has a taken row, which is the lowest of the file.
      pub measuring_stops : {kept counts : List ℕ} → m.passes ≡ false
          → FileFound old new l kept counts (record { passes = false; taken = b.number * 1024 + m.taken; size = 0; changed = 0 })
      measuring_stops bad = record {
        ready = λ e. absurd (not-both e refl);
        free = λ e. absurd (not-both e refl);
        size = λ e. absurd (not-both e refl);
        changed = λ e. absurd (not-both e refl);
        taken = λ _ done.
            let some : m.taken < 1024 =
            elim (dec_lt m.taken 1024) [
              | yes h ↦ h
              | no h ↦
                  let none : taken_in old new (block_in l b.number) ≡ 1024 = omega (arith, one.taken, one-taken) in
                  absurd (not-both (one.passes ∙ ap₂ both (ranges_true l done b.number there) (eq-eqb _ _ none)) bad)
            ] in
            (row-taken old new l runs bytes b.number there so.free m.taken one.taken some, omega (arith, there));
      }

      -- It passes.
      pub measuring_next : m.passes ≡ true → length l < 18446744073709551616 → {c : Body} → c ≡ next_body l b
          → {block kept₁ counts₁ : List ℕ} → length block ≡ 1024 → kept₁ ≡ kept_with (new_block old new (block_in l b.number)) kept b.number
          → counts₁ ≡ set counts b.number (length (changed_in old new (block_in l b.number)))
          → Measuring old new l n (size + m.size) (changed + m.changed) c block kept₁ counts₁
      measuring_next good fits {c} step {block} {kept₁} {counts₁} block_long keeps counts-is =
          let right = contents-right l runs in
          let number = file-number l right fits so.walk there step in
          let taken : ℕ = taken_in old new (block_in l b.number) in
          let passed = both_true (has_true_range l b.number) (eqb taken 1024) (sym one.passes ∙ good) in
          let none : taken ≡ 1024 = eqb-true taken 1024 passed.1 in
          record {
            walk = file-next l right fits so.walk there step;
            all = so.all;
            sized = omega (
              arith,
              so.sized,
              one.size,
              body-next old new l runs bytes b.number there,
              ap (λ k. length (bodies_for (new_rows old new l) k)) number,
            );
            counted = omega (
              arith,
              so.counted,
              one.changed,
              changed-next old new l runs bytes b.number there,
              ap (λ k. length (failing_from 0 (k * 1024) (λ p. is_kept old new (row_at l p)))) number,
            );
            free = λ p h. free-next old new l runs bytes b.number there so.free (omega (arith, none)) p (omega (arith, number));
            ranged = file-passed l right fits so.walk there step so.ranged passed.0;
            block_long = block_long;
            kept_long = ap length keeps ∙ kept_length kept (b.number * 3) _ _ _ ∙ so.kept_long;
            kept_of = λ k h.
                kept_next {block = λ i. new_block old new (block_in l i)} so.kept_of so.kept_long (omega (arith, there, runs-few l runs)) refl refl refl keeps k (omega (arith, number));
            counts_long = ap length counts-is ∙ length-set counts b.number _ ∙ so.counts_long;
            counts_of = λ k h. counted_next old new l counts b.number so.counts_of (omega (arith, so.counts_long, there, runs-few l runs)) counts-is k (omega (arith, number));
          }

    -- Behind the last body all is known.
    pub measuring_all : {order : List ℕ} → Paired old new order → n ≤ b.number
        → FileFound old new l kept counts (record { passes = true; taken = n * 1024; size = size; changed = changed })
    unfolding bad_range
    measuring_all pairs end =
        let whole : b.number ≡ n = omega (arith, so.walk.within, so.all) in
        let ranges : bad_range l ≡ count l =
        sym (first_only (count l) (count l) (has_true_range l) (omega arith) (λ k h. so.ranged k (omega (arith, so.all))) (λ h. absurd (omega arith))) in
        record {
          ready = λ _. record {
            file = file_ranges l runs ∙ ranges_done l ranges;
            rising = pairs.rising;
            new_long = pairs.new_long;
            kept_long = so.kept_long;
            kept_of = λ k h. so.kept_of k (omega (arith, so.all));
            counts_long = so.counts_long;
            counts_of = λ k h. so.counts_of k (omega (arith, so.all));
          };
          free = λ _. omega (arith, none-taken old new l n so.all (λ p h. so.free p (omega arith)), so.all);
          size = λ _. so.sized
              ∙ ap (λ k. contents_size 2 n + length (bodies_for (new_rows old new l) k)) whole
              ∙ ap (λ k. contents_size 2 k + length (bodies_for (new_rows old new l) k)) so.all
              ∙ sym (length-new old new l);
          changed = λ _. so.counted
              ∙ ap (λ k. length (failing_from 0 (k * 1024) (λ p. is_kept old new (row_at l p)))) whole
              ∙ all_changed old new l n so.all;
          taken = λ e. absurd (not-both refl e);
        }
