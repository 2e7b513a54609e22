-- One block: its numbers replaced one by one, the lowest place that is taken, and that nothing has to be looked up in a
-- block whose range meets no number of the list.
-- Assumes nothing.
use mathlib.Core.Bool.{true, false}
use mathlib.Core.List.{List, [], ◌∷◌}
use mathlib.Core.Path.{◌≡◌, refl, sym, ap, ◌∙◌}
use Prim.Native.Nat.{ℕ, ◌+◌, ◌≤◌, ◌<◌}
use native.Mathlib.Decide.{ℕ_discrete}
use native.Mathlib.Nat.{zero-add}
use native.Mathlib.Omega.{arith}
use lib.ListN.{length, get_or, set, length-map, length-append}
use lib.Seq.{ext_get_or}
use borrow.Author.Tests.{eq-eqb, ne_eqb, ltb-false}
use Rattle.lists.specs.Ends.{lowest_of, highest_of}
use Rattle.lists.specs.Members.{Rising}
use Rattle.lists.specs.Passing.{failing_from, passing}
use Rattle.lists.specs.Tab.{tab}
use Rattle.lists.proofs.Failing.{failing_passed, failing_failed, failing_none, failing_few, failing_all}
use Rattle.lists.proofs.Highs.{highest_bound}
use Rattle.lists.proofs.Lows.{lowest_bound}
use Rattle.lists.proofs.Search.{first_only, first_le}
use Rattle.lists.proofs.Tabs.{Written, written_none, written_next, written_later, written-length, written_all, is-tab}
use Rattle.compare.proofs.Lists.{get_d_map_in}
use Rattle.renumber.specs.InnerBlocks.{new_block, taken_in, changed_in}
use Rattle.renumber.specs.InnerPairs.{Paired, meets_in, is_kept}
use Rattle.renumber.specs.Pairs.{place_in, is_in, renumbered, is_free, along}
use Rattle.renumber.proofs.Becoming.{stays, free_other, meets-not, new-along}

module _ (old new block : List ℕ) where
  pub length_block : length (new_block old new block) ≡ length block
  unfolding new_block
  length_block = length-map block (renumbered old new)

  pub get_d_block : (k : ℕ) → k < length block → get_or (new_block old new block) k 0 ≡ renumbered old new (get_or block k 0)
  unfolding new_block
  get_d_block k h = get_d_map_in (renumbered old new) block k 0 0 h

  pub block_tab : new_block old new block ≡ tab (length block) (λ k. renumbered old new (get_or block k 0))
  block_tab = is-tab (new_block old new block) (length block) (λ k. renumbered old new (get_or block k 0)) 0 length_block get_d_block

  -- Where every number stays the block does,
  pub same_block : ((k : ℕ) → k < length block → get_or block k 0 ≡ renumbered old new (get_or block k 0)) → block ≡ new_block old new block
  same_block same = ext_get_or 0 block (new_block old new block) (sym length_block) (λ k h. same k h ∙ sym (get_d_block k h))

  -- and it is so where none is counted that changes.
  pub unchanged : length (changed_in old new block) ≡ 0 → block ≡ new_block old new block
  unfolding changed_in
  unchanged none = same_block (λ k h.
      elim (ℕ_discrete (get_or block k 0) (renumbered old new (get_or block k 0))) [
        | yes e ↦ e
        | no n ↦
            let there = failing_all 0 (length block) (λ k. is_kept old new (get_or block k 0)) k (omega arith) (omega arith) (ne_eqb _ _ n) in
            absurd (omega (arith, there.1))
      ])

  -- A number that is not listed stays.
  pub kept : (k : ℕ) → is_in old (get_or block k 0) ≡ false → get_or block k 0 ≡ renumbered old new (get_or block k 0)
  kept k out = stays old new (get_or block k 0) (place_in old (get_or block k 0)) refl (ltb-false _ _ out)

  -- In a block whose range has no old number nothing changes,
  module _ (rising : Rising old) (apart : meets_in old (lowest_of block) (highest_of block) ≡ false) where
    all_kept : (k : ℕ) → k < length block → get_or block k 0 ≡ renumbered old new (get_or block k 0)
    all_kept k h =
        kept k (meets-not old (lowest_of block) (highest_of block) rising apart (get_or block k 0) (lowest_bound block k h) (highest_bound block k h))

    pub replace_skipped : block ≡ new_block old new block
    replace_skipped = same_block all_kept

    pub changed_skipped : 0 ≡ length (changed_in old new block)
    unfolding changed_in
    changed_skipped = sym (ap length (failing_none (length block) (λ k. is_kept old new (get_or block k 0)) (λ k h. eq-eqb _ _ (all_kept k h))))

  -- and in one whose range has no new number none is taken.
  pub taken_skipped : {order : List ℕ} → Paired old new order → meets_in (along order new) (lowest_of block) (highest_of block) ≡ false
      → length block ≡ taken_in old new block
  unfolding taken_in
  taken_skipped {order} so apart =
      first_only (length block) (length block) (λ k. is_free old new (get_or block k 0)) (omega arith)
      (λ k h.
      let x : ℕ = get_or block k 0 in
      sym (free_other old new x
      (new-along new order (so.order_long ∙ sym so.new_long) so.places so.along_rising x
      ∙ meets-not (along order new) (lowest_of block) (highest_of block) so.along_rising apart x (lowest_bound block k h) (highest_bound block k h))))
      (λ h. absurd (omega arith))

  -- No place behind the block is found.
  pub taken-within : taken_in old new block ≤ length block
  unfolding taken_in
  taken-within = first_le (length block) (λ k. is_free old new (get_or block k 0))

  -- The place at which the search for a taken number stops.
  module _ (i : ℕ) (within : i ≤ length block) (before : (k : ℕ) → k < i → is_free old new (get_or block k 0) ≡ true) where
    pub taken-found : is_free old new (get_or block i 0) ≡ false → i ≡ taken_in old new block
    unfolding taken_in
    taken-found bad = first_only (length block) i (λ k. is_free old new (get_or block k 0)) within before (λ _. bad)

    pub taken_none : length block ≤ i → i ≡ taken_in old new block
    unfolding taken_in
    taken_none all = first_only (length block) i (λ k. is_free old new (get_or block k 0)) within before (λ h. absurd (omega arith))

-- After k numbers the front of the block is replaced, and those that changed are counted.
pub record Replaced (old new block after : List ℕ) (changed k : ℕ) : Type 0 where
  pub written : Written 0 k (λ i. renumbered old new (get_or block i 0)) block after
  pub counted : changed ≡ length (failing_from 0 k (λ i. is_kept old new (get_or block i 0)))

pub replaced_none : (old new block : List ℕ) → Replaced old new block block 0 0
unfolding failing_from passing
replaced_none old new block = record { written = written_none (omega arith); counted = refl }

module _ {old new block after : List ℕ} {changed k : ℕ} (so : Replaced old new block after changed k) where
  pub replaced_length : length after ≡ length block
  replaced_length = written-length so.written

  pub replaced_few : changed ≤ k
  replaced_few = omega (arith, so.counted, failing_few 0 k (λ i. is_kept old new (get_or block i 0)))

  module _ (there : k < length block) (y : ℕ) (is : y ≡ renumbered old new (get_or after k 0)) where
    -- the number that was there
    was : get_or after k 0 ≡ get_or block k 0
    was = written_later so.written k 0 (omega arith)

    becomes : y ≡ renumbered old new (get_or block k 0)
    becomes = is ∙ ap (renumbered old new) was

    next-written : Written 0 (k + 1) (λ i. renumbered old new (get_or block i 0)) block (set after k y)
    next-written = written_next so.written k y (omega arith) (sym (zero-add k)) becomes

    pub replaced_same : y ≡ get_or after k 0 → {next : ℕ} → next ≡ changed → Replaced old new block (set after k y) next (k + 1)
    replaced_same e {next} n = record {
      written = next-written;
      counted = n
          ∙ so.counted
          ∙ omega (
            arith,
            ap length (failing_passed k (λ i. is_kept old new (get_or block i 0)) (eq-eqb _ _ (sym was ∙ sym e ∙ becomes))),
            length-append (failing_from 0 k (λ i. is_kept old new (get_or block i 0))) [],
          );
    }

    pub replaced_other : (y ≡ get_or after k 0 → ⊥) → {next : ℕ} → next ≡ changed + 1 → Replaced old new block (set after k y) next (k + 1)
    replaced_other other {next} n = record {
      written = next-written;
      counted =
          omega (
            arith,
            so.counted,
            ap length (failing_failed k (λ i. is_kept old new (get_or block i 0)) (ne_eqb _ _ (λ e. other (becomes ∙ sym e ∙ sym was)))),
            length-append (failing_from 0 k (λ i. is_kept old new (get_or block i 0))) (k ∷ []),
          );
    }

  pub replaced_all : length block ≤ k → (changed ≡ length (changed_in old new block)) × (after ≡ new_block old new block)
  unfolding changed_in
  replaced_all all =
      let whole : k ≡ length block = omega (arith, so.written.room) in (
        so.counted ∙ ap (λ n. length (failing_from 0 n (λ i. is_kept old new (get_or block i 0)))) whole,
        written_all so.written (length block) whole refl ∙ sym (block_tab old new block),
      )
