-- Each entry of a list is the answer of single access taken apart: its value with its count, or its refusal (R45). Each
-- law speaks of what list access and single access give and leave, for every list.
-- Assumes nothing.
use mathlib.Core.List.{List}
use mathlib.Core.Path.{◌≡◌, refl, ap}
use Prim.Native.Nat.{ℕ, ◌*◌, ◌≤◌, ◌<◌}
use native.Mathlib.Decide.{dec_le}
use native.Mathlib.Omega.{arith}
use lib.ListN.{length, get_or}
use Rattle.lists.specs.Search.{first_beyond}
use Rattle.lists.proofs.Search.{first-beyond-before, first-beyond-none}
use Rattle.places.specs.declared.Answer.{Answer}
use Rattle.places.specs.declared.Answer.TheVariants.{Done, Index}
use Rattle.places.specs.Answers.{number_of, place_of}
use Rattle.places.specs.Sizes.{lanes}
use Rattle.places.specs.Takes.{answer_for}
use Rattle.access.specs.Calls.{single_takes, single_of, list_takes, list_leaves}
use Rattle.access.specs.Counts.{counts_of_lem}
use Rattle.access.proofs.Accesses.{list-single, list-refused}
use Rattle.promises.proofs.Numbers.{single-numbers, list-numbers}

module _ (t w : ℕ) (packed indices output : List ℕ) where
  -- Where the list is done, each entry that it leaves is the value that single access gives for its index, with its
  -- count.
  pub batch_done : {S : Type 0} (value : ℕ → ℕ → S) (refused : Answer → S) → answer_for (list_takes t w packed indices output) ≡ Done
      → (i : ℕ) → i < length indices
      → single_of value refused t w packed (get_or indices i 0) ≡ value (get_or (list_leaves t w packed indices output) i 0) (get_or (counts_of_lem t w indices) i 0)
  batch_done value refused done i h =
      let given = (list-numbers t w packed indices output 0).0.0 (ap number_of done, ap place_of done) in
      list-single value refused t w packed given.0 given.1.0 indices output given.1.1.0
      ((first-beyond-none 1024 indices).1 given.1.1.1.0) i h

  module _ (hw : w ≤ t) (ep : length packed ≡ lanes t * w) (eo : length output ≡ length indices) where
    -- An entry is refused only where its index is 1,024 or more.
    bad_index : (i : ℕ) → (number_of (answer_for (single_takes t w packed i)) ≡ 0 → ⊥) → 1024 ≤ i
    bad_index i refused =
        elim (dec_le 1024 i) [
          | yes h ↦ h
          | no d ↦ absurd (refused ((single-numbers t w packed i 0).0.1 (hw, (ep, (omega arith, refl)))).0)
        ]

    -- One entry that single access refuses refuses the whole list, with the lowest place of such an entry, and nothing
    -- is written.
    pub batch_refused : (i : ℕ) → i < length indices → (number_of (answer_for (single_takes t w packed (get_or indices i 0))) ≡ 0 → ⊥)
        → (answer_for (list_takes t w packed indices output) ≡ Index (first_beyond 1024 indices))
        × (first_beyond 1024 indices ≤ i)
        × (list_leaves t w packed indices output ≡ output)
    batch_refused i h refused =
        let bad = bad_index (get_or indices i 0) refused in
        let first : first_beyond 1024 indices ≤ i =
        elim (dec_le (first_beyond 1024 indices) i) [
          | yes h ↦ h
          | no d ↦ absurd (omega (arith, first-beyond-before 1024 indices i (omega arith), bad))
        ] in
        let left = list-refused {S = Answer} (λ _ _. Done) (λ a. a) t w packed hw ep indices output eo (omega arith) in
        (left.0, first, left.1)
