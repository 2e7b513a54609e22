-- What the plain calls answer, by the tests that they make, over the element size; what was taken where a call is done;
-- and what a refused call leaves.
-- Assumes nothing.
use mathlib.Core.Path.{◌≡◌}
use mathlib.Core.List.{List}
use Prim.Native.Nat.{ℕ, ◌*◌, ◌≤◌, ◌<◌}
use lib.ListN.{length}
use borrow.Author.Tests.{le-leb, lt-leb, le-ltb, lt-ltb, eq-eqb, ne_eqb, leb-true, ltb-true, eqb-true}
use Rattle.places.specs.declared.Answer.TheVariants.{Done, Width, Block, Packed, Index}
use Rattle.places.specs.Answers.{number_of}
use Rattle.places.specs.Sizes.{lanes}
use Rattle.places.specs.Takes.{answer_for}
use Rattle.places.proofs.Answers.{left-refused, first_passes}
use Rattle.plain.specs.Calls.{plain_takes, plain_pack_leaves, plain_unpack_leaves, plain_single_takes}

-- a width, a block of values and a packed block

module _ (t w : ℕ) (values packed : List ℕ) where
  pub bad_width : t < w → answer_for (plain_takes t w values packed) ≡ Width
  unfolding answer_for
  bad_width h = simp (lt-leb w t h)

  pub bad_block : w ≤ t → (length values ≡ 1024 → ⊥) → answer_for (plain_takes t w values packed) ≡ Block
  unfolding answer_for
  bad_block h b = simp (le-leb w t h, ne_eqb (length values) 1024 b)

  pub bad_packed : w ≤ t → length values ≡ 1024 → (length packed ≡ lanes t * w → ⊥) → answer_for (plain_takes t w values packed) ≡ Packed
  unfolding answer_for
  bad_packed h e b = simp (le-leb w t h, eq-eqb (length values) 1024 e, ne_eqb (length packed) (lanes t * w) b)

  pub good : w ≤ t → length values ≡ 1024 → length packed ≡ lanes t * w → answer_for (plain_takes t w values packed) ≡ Done
  unfolding answer_for
  good h e f = simp (le-leb w t h, eq-eqb (length values) 1024 e, eq-eqb (length packed) (lanes t * w) f)

pub record Blocks (t w : ℕ) (values packed : List ℕ) : Type 0 where
  pub narrow : w ≤ t
  pub block : length values ≡ 1024
  pub whole : length packed ≡ lanes t * w

pub taken : (t w : ℕ) (values packed : List ℕ) → answer_for (plain_takes t w values packed) ≡ Done → Blocks t w values packed
taken t w values packed e =
    let first = first_passes _ _ e in
    let second = first_passes _ _ first.1 in
    let third = first_passes _ _ second.1 in
    record {
      narrow = leb-true w t first.0;
      block = eqb-true (length values) 1024 second.0;
      whole = eqb-true (length packed) (lanes t * w) third.0;
    }

-- A refused call leaves what its buffer held.
module _ (t w : ℕ) (values packed : List ℕ) (refused : number_of (answer_for (plain_takes t w values packed)) ≡ 0 → ⊥) where
  pub pack-refused : plain_pack_leaves t w values packed ≡ packed
  unfolding plain_pack_leaves
  pack-refused = left-refused (answer_for (plain_takes t w values packed)) _ packed refused

  pub unpack-refused : plain_unpack_leaves t w values packed ≡ values
  unfolding plain_unpack_leaves
  unpack-refused = left-refused (answer_for (plain_takes t w values packed)) _ values refused

-- a width, a packed block and an index

module _ (t w : ℕ) (packed : List ℕ) (index : ℕ) where
  pub single_bad_width : t < w → answer_for (plain_single_takes t w packed index) ≡ Width
  unfolding answer_for
  single_bad_width h = simp (lt-leb w t h)

  pub single_bad_packed : w ≤ t → (length packed ≡ lanes t * w → ⊥) → answer_for (plain_single_takes t w packed index) ≡ Packed
  unfolding answer_for
  single_bad_packed h b = simp (le-leb w t h, ne_eqb (length packed) (lanes t * w) b)

  pub single_bad_index : w ≤ t → length packed ≡ lanes t * w → 1024 ≤ index → answer_for (plain_single_takes t w packed index) ≡ Index 0
  unfolding answer_for
  single_bad_index h e b = simp (le-leb w t h, eq-eqb (length packed) (lanes t * w) e, le-ltb index 1024 b)

  pub single-good : w ≤ t → length packed ≡ lanes t * w → index < 1024 → answer_for (plain_single_takes t w packed index) ≡ Done
  unfolding answer_for
  single-good h e b = simp (le-leb w t h, eq-eqb (length packed) (lanes t * w) e, lt-ltb index 1024 b)

pub record Place (t w : ℕ) (packed : List ℕ) (index : ℕ) : Type 0 where
  pub narrow : w ≤ t
  pub whole : length packed ≡ lanes t * w
  pub within : index < 1024

pub single-taken : (t w : ℕ) (packed : List ℕ) (index : ℕ) → answer_for (plain_single_takes t w packed index) ≡ Done → Place t w packed index
single-taken t w packed index e =
    let first = first_passes _ _ e in
    let second = first_passes _ _ first.1 in
    let third = first_passes _ _ second.1 in
    record {
      narrow = leb-true w t first.0;
      whole = eqb-true (length packed) (lanes t * w) second.0;
      within = ltb-true index 1024 third.0;
    }
