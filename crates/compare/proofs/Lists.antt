-- What is listed of two files, block by block, is the list of all rows that differ, with both numbers; and that list
-- has every such row once, rising, and no other.
-- Assumes nothing.
use mathlib.Core.List.{List, [], ◌∷◌, ◌++◌, map, map-map}
use mathlib.Core.Logic.{◌≢◌}
use mathlib.Core.Path.{◌≡◌, refl, sym, ap, ap₂, subst, ◌∙◌}
use Prim.Native.Nat.{ℕ, zero, suc, ◌+◌, ◌*◌, ◌/◌, ◌%◌, ◌<◌, min}
use native.Mathlib.Nat.{suc-mul, add-zero, zero-add, zero-mul, le_of_suc-le-suc}
use native.Mathlib.Omega.{arith}
use lib.Dec.{eqb}
use lib.ListN.{length, get_or, length-map}
use borrow.Author.Tests.{eqb-false, ne_eqb}
use Rattle.lists.specs.Passing.{passing, failing_from}
use Rattle.lists.proofs.Failing.{failing_append, failing_ext, failing_shift, map_failing, failing_each, failing_rising, failing_all}
use Rattle.lists.proofs.Passing.{map_both}
use Rattle.contents.specs.Contents.{count}
use Rattle.files.specs.Files.{block_in, row_at}
use Rattle.compare.specs.Changes.{is_same_at, differing, change_at, changes_in, rows_in_both, is_same_row, change_of, changes_of, changes_to}
use Rattle.compare.specs.Listed.{InBoth, no_change, Lists}

-- What a rule makes of the entry at a place that is there.
pub get_d_map_in : {A B : Type 0} (f : A → B) (list : List A) (k : ℕ) (d : A) (e : B) → k < length list → get_or (map f list) k e ≡ f (get_or list k d)
get_d_map_in f [] k d e h = absurd (omega arith)
get_d_map_in f (x ∷ list) zero d e h = refl
get_d_map_in f (x ∷ list) (suc k) d e h = get_d_map_in f list k d e (le_of_suc-le-suc h)

-- Row 1,024 · i + p is place p of block i.
pub row_of : (l : List ℕ) (i p : ℕ) → p < 1024 → row_at l (i * 1024 + p) ≡ get_or (block_in l i) p 0
unfolding row_at
row_of l i p h =
    let b : (i * 1024 + p) / 1024 ≡ i = omega arith in
    let q : (i * 1024 + p) % 1024 ≡ p = omega arith in
    ap₂ (λ b q. get_or (block_in l b) q 0) b q

module _ (l m : List ℕ) where
  -- The changes of block i are those of its rows.
  block_rows : (i : ℕ) → map (change_of l m) (failing_from (i * 1024) 1024 (is_same_row l m)) ≡ changes_in i (block_in l i) (block_in m i)
  unfolding changes_in differing
  block_rows i =
      ap (map (change_of l m))
      (ap (λ s. failing_from s 1024 (is_same_row l m)) (sym (add-zero (i * 1024)))
      ∙ failing_shift (i * 1024) 0 1024 (is_same_row l m)
      ∙ ap (map (λ p. i * 1024 + p))
      (failing_ext 0 1024 (λ p. is_same_row l m (i * 1024 + p)) (is_same_at (block_in l i) (block_in m i))
      (λ p _ h. ap₂ eqb (row_of l i p (omega arith)) (row_of m i p (omega arith)))))
      ∙ map-map (change_of l m) (λ p. i * 1024 + p) (failing_from 0 1024 (is_same_at (block_in l i) (block_in m i)))
      ∙ map_failing (λ p. change_of l m (i * 1024 + p)) (change_at i (block_in l i) (block_in m i)) (is_same_at (block_in l i) (block_in m i)) 0 1024
      (λ p _ h. ap₂ (λ a b. record { row = i * 1024 + p; left = a; right = b }) (row_of l i p (omega arith)) (row_of m i p (omega arith)))

  rows_to : (n : ℕ) → changes_to l m n ≡ map (change_of l m) (failing_from 0 (n * 1024) (is_same_row l m))
  unfolding changes_to failing_from passing
  rows_to zero = sym (ap (λ k. map (change_of l m) (failing_from 0 k (is_same_row l m))) (zero-mul 1024))
  rows_to (suc n) =
      ap₂ ◌++◌ (rows_to n) (sym (block_rows n))
      ∙ sym (map_both (change_of l m) (failing_from 0 (n * 1024) (is_same_row l m)) (failing_from (n * 1024) 1024 (is_same_row l m)))
      ∙ ap (map (change_of l m))
      (ap (λ s. failing_from 0 (n * 1024) (is_same_row l m) ++ failing_from s 1024 (is_same_row l m)) (sym (zero-add (n * 1024)))
      ∙ sym (failing_append 0 (n * 1024) 1024 (is_same_row l m))
      ∙ ap (λ k. failing_from 0 k (is_same_row l m)) (sym (suc-mul n 1024)))

  -- Over all blocks that are in both files, every change is listed once.
  pub blocks_list : changes_to l m (min (count l) (count m)) ≡ changes_of l m
  unfolding changes_of
  blocks_list = rows_to (min (count l) (count m))

  -- ---- the list, in plain words

  abbrev rows : List ℕ
  rows = failing_from 0 (rows_in_both l m) (is_same_row l m)

  long : length (changes_of l m) ≡ length rows
  unfolding changes_of
  long = length-map rows (change_of l m)

  at : (k : ℕ) → k < length (changes_of l m) → get_or (changes_of l m) k no_change ≡ change_of l m (get_or rows k 0)
  unfolding changes_of
  at k h = get_d_map_in (change_of l m) rows k 0 no_change (omega (arith, long))

  pub changes-list : Lists l m (changes_of l m)
  changes-list = record {
    complete = λ p both n.
        let there = failing_all 0 (rows_in_both l m) (is_same_row l m) p (omega arith) (omega (arith, both.in_left, both.in_right)) (ne_eqb (row_at l p) (row_at m p) n) in
        record {
          at = there.0;
          within = omega (arith, long, there.1);
          is = at there.0 (omega (arith, long, there.1)) ∙ ap (change_of l m) there.2;
        };
    in_both = λ k h.
        let each = failing_each 0 (rows_in_both l m) (is_same_row l m) k (omega (arith, long)) in
        subst (λ c. InBoth l m c.row) (sym (at k h)) (record { in_left = omega (arith, each.high); in_right = omega (arith, each.high) });
    left_is = λ k h. subst (λ c. c.left ≡ row_at l c.row) (sym (at k h)) refl;
    right_is = λ k h. subst (λ c. c.right ≡ row_at m c.row) (sym (at k h)) refl;
    unequal = λ k h.
        let each = failing_each 0 (rows_in_both l m) (is_same_row l m) k (omega (arith, long)) in
        subst (λ c. c.left ≢ c.right) (sym (at k h)) (eqb-false (row_at l (get_or rows k 0)) (row_at m (get_or rows k 0)) each.fails);
    rising = λ j k b h.
        let r = failing_rising 0 (rows_in_both l m) (is_same_row l m) j k b (omega (arith, long)) in
        let first = ap (λ c. c.row) (at j (omega arith)) in
        let second = ap (λ c. c.row) (at k h) in
        omega (arith, r, first, second);
  }
