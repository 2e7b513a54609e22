-- What access to one place and by a list answers, by the tests that they make, over the element size.
-- Assumes nothing.
use mathlib.Core.Path.{◌≡◌}
use mathlib.Core.List.{List, [], ◌∷◌}
use Prim.Native.Nat.{ℕ, ◌*◌, ◌≤◌, ◌<◌}
use native.Mathlib.Omega.{arith}
use lib.ListN.{length, get_or}
use borrow.Author.Tests.{le-leb, lt-leb, le-ltb, lt-ltb, eq-eqb, ne_eqb, leb-true, ltb-true, eqb-true}
use Rattle.lists.specs.Search.{first_beyond}
use Rattle.lists.proofs.Search.{first-beyond-before}
use Rattle.places.specs.declared.Answer.{Answer}
use Rattle.places.specs.declared.Answer.TheVariants.{Done, Width, Packed, Lists, Index}
use Rattle.places.specs.Sizes.{lanes}
use Rattle.places.specs.Takes.{an_index, answer_for}
use Rattle.places.proofs.Answers.{first_passes}
use Rattle.access.specs.Calls.{single, single_of, list_takes}
use Rattle.access.specs.Counts.{count_at}
use Rattle.packing.specs.Packed.{value_at}

-- ---- single access

pub index_in : (i : ℕ) → i < 1024 → answer_for (an_index i ∷ []) ≡ Done
unfolding answer_for
index_in i h = simp (lt-ltb i 1024 h)

pub index_within : (i : ℕ) → answer_for (an_index i ∷ []) ≡ Done → i < 1024
index_within i e = ltb-true i 1024 (first_passes (an_index i) [] e).0

-- an index within the block is answered with the value there and its count
pub index_value : {S : Type 0} (value : ℕ → ℕ → S) (refused : Answer → S) (t w : ℕ) (packed : List ℕ) (i : ℕ) → i < 1024
    → value (value_at t w packed i) (count_at t w i) ≡ single value refused (answer_for (an_index i ∷ [])) (value_at t w packed i) (count_at t w i)
index_value value refused t w packed i h = rw (index_in i h)

-- an index past the block's end is refused
pub index_past : {S : Type 0} (value : ℕ → ℕ → S) (refused : Answer → S) (i v n : ℕ) → 1024 ≤ i
    → refused (Index 0) ≡ single value refused (answer_for (an_index i ∷ [])) v n
unfolding answer_for
index_past value refused i v n h = simp (le-ltb i 1024 h)

module _ {S : Type 0} (value : ℕ → ℕ → S) (refused : Answer → S) (t w : ℕ) (packed : List ℕ) (i : ℕ) where
  pub single_bad_width : t < w → single_of value refused t w packed i ≡ refused Width
  unfolding single_of answer_for
  single_bad_width h = simp (lt-leb w t h)

  pub single_bad_packed : w ≤ t → (length packed ≡ lanes t * w → ⊥) → single_of value refused t w packed i ≡ refused Packed
  unfolding single_of answer_for
  single_bad_packed h b = simp (le-leb w t h, ne_eqb (length packed) (lanes t * w) b)

  pub single-good : w ≤ t → length packed ≡ lanes t * w
      → single value refused (answer_for (an_index i ∷ [])) (value_at t w packed i) (count_at t w i) ≡ single_of value refused t w packed i
  unfolding single_of answer_for
  single-good h e = simp (le-leb w t h, eq-eqb (length packed) (lanes t * w) e)

-- ---- access by a list

module _ (t w : ℕ) (packed indices out : List ℕ) where
  pub list_bad_width : t < w → answer_for (list_takes t w packed indices out) ≡ Width
  unfolding answer_for
  list_bad_width h = simp (lt-leb w t h)

  pub list_bad_packed : w ≤ t → (length packed ≡ lanes t * w → ⊥) → answer_for (list_takes t w packed indices out) ≡ Packed
  unfolding answer_for
  list_bad_packed h b = simp (le-leb w t h, ne_eqb (length packed) (lanes t * w) b)

  pub list_bad_lists : w ≤ t → length packed ≡ lanes t * w → (length out ≡ length indices → ⊥) → answer_for (list_takes t w packed indices out) ≡ Lists
  unfolding answer_for
  list_bad_lists h e b = simp (le-leb w t h, eq-eqb (length packed) (lanes t * w) e, ne_eqb (length out) (length indices) b)

  pub list_bad_index : w ≤ t → length packed ≡ lanes t * w → length out ≡ length indices → first_beyond 1024 indices < length indices
      → answer_for (list_takes t w packed indices out) ≡ Index (first_beyond 1024 indices)
  unfolding answer_for
  list_bad_index h e f b =
      simp (
        le-leb w t h,
        eq-eqb (length packed) (lanes t * w) e,
        eq-eqb (length out) (length indices) f,
        ne_eqb (first_beyond 1024 indices) (length indices) (λ z. omega arith),
      )

  -- each index is below 1,024
  pub list-good : w ≤ t → length packed ≡ lanes t * w → length out ≡ length indices → first_beyond 1024 indices ≡ length indices
      → answer_for (list_takes t w packed indices out) ≡ Done
  unfolding answer_for
  list-good h e f good =
      simp (
        le-leb w t h,
        eq-eqb (length packed) (lanes t * w) e,
        eq-eqb (length out) (length indices) f,
        eq-eqb (first_beyond 1024 indices) (length indices) good,
      )

pub indices-good : (indices : List ℕ) → first_beyond 1024 indices ≡ length indices → (i : ℕ) → i < length indices
    → answer_for (an_index (get_or indices i 0) ∷ []) ≡ Done
indices-good indices good i h = index_in (get_or indices i 0) (first-beyond-before 1024 indices i (omega arith))

-- A list that is done was taken: its width, its packed words, its output and each of its indices.
pub record Listable (t w : ℕ) (packed indices out : List ℕ) : Type 0 where
  pub narrow : w ≤ t
  pub whole : length packed ≡ lanes t * w
  pub room : length out ≡ length indices
  pub inside : (i : ℕ) → i < length indices → answer_for (an_index (get_or indices i 0) ∷ []) ≡ Done

pub list-taken : (t w : ℕ) (packed indices out : List ℕ) → answer_for (list_takes t w packed indices out) ≡ Done → Listable t w packed indices out
list-taken t w packed indices out e =
    let first = first_passes _ _ e in
    let second = first_passes _ _ first.1 in
    let third = first_passes _ _ second.1 in
    let fourth = first_passes _ _ third.1 in
    record {
      narrow = leb-true w t first.0;
      whole = eqb-true (length packed) (lanes t * w) second.0;
      room = eqb-true (length out) (length indices) third.0;
      inside = indices-good indices (eqb-true (first_beyond 1024 indices) (length indices) fourth.0);
    }
