-- What pack and unpack answer, by the tests that they make, and what they leave where they are done, over the element
-- size.
-- Assumes nothing.
use mathlib.Core.Path.{◌≡◌, sym, ap, ◌∙◌}
use mathlib.Core.List.{List}
use Prim.Native.Nat.{ℕ, ◌*◌, ◌≤◌, ◌<◌}
use lib.ListN.{length}
use borrow.Author.Tests.{le-leb, lt-leb, eq-eqb, ne_eqb}
use Rattle.places.specs.declared.Answer.TheVariants.{Done, Width, Block, Packed}
use Rattle.places.specs.Answers.{left}
use Rattle.places.specs.Sizes.{lanes}
use Rattle.places.specs.Takes.{answer_for}
use Rattle.packing.specs.Calls.{pack_takes, pack_leaves, unpack_leaves}
use Rattle.packing.specs.Packed.{pack_of, unpack_of}

-- a width, a block of values and a packed block

module _ (t w : ℕ) (values packed : List ℕ) where
  pub bad_width : t < w → answer_for (pack_takes t w values packed) ≡ Width
  unfolding answer_for
  bad_width h = simp (lt-leb w t h)

  pub bad_block : w ≤ t → (length values ≡ 1024 → ⊥) → answer_for (pack_takes t w values packed) ≡ Block
  unfolding answer_for
  bad_block h b = simp (le-leb w t h, ne_eqb (length values) 1024 b)

  pub bad_packed : w ≤ t → length values ≡ 1024 → (length packed ≡ lanes t * w → ⊥) → answer_for (pack_takes t w values packed) ≡ Packed
  unfolding answer_for
  bad_packed h e b = simp (le-leb w t h, eq-eqb (length values) 1024 e, ne_eqb (length packed) (lanes t * w) b)

  pub good_block : w ≤ t → length values ≡ 1024 → length packed ≡ lanes t * w → answer_for (pack_takes t w values packed) ≡ Done
  unfolding answer_for
  good_block h e f = simp (le-leb w t h, eq-eqb (length values) 1024 e, eq-eqb (length packed) (lanes t * w) f)

  module _ (h : w ≤ t) (ev : length values ≡ 1024) (ep : length packed ≡ lanes t * w) where
    pub pack-leaves : pack_leaves t w values packed ≡ pack_of t w values
    unfolding pack_leaves
    pack-leaves = ap (λ a. left a (pack_of t w values) packed) (good_block h ev ep)

    pub unpack-leaves : unpack_leaves t w values packed ≡ unpack_of t w packed
    unfolding unpack_leaves
    unpack-leaves = ap (λ a. left a (unpack_of t w packed) values) (good_block h ev ep)

-- the same of lists of elements, by the tests that the code makes of them: n is LANES
module _ {A : Type 0} (numbers : List A → List ℕ) (long : (xs : List A) → length (numbers xs) ≡ length xs)
    {t n : ℕ} (side : lanes t ≡ n) {w : ℕ} (values packed : List A) (h : w ≤ t) where
  pub tested_block : (length values ≡ 1024 → ⊥) → answer_for (pack_takes t w (numbers values) (numbers packed)) ≡ Block
  tested_block b = bad_block t w _ _ h (λ e. b (sym (long values) ∙ e))

  pub tested_packed : length values ≡ 1024 → (length packed ≡ n * w → ⊥) → answer_for (pack_takes t w (numbers values) (numbers packed)) ≡ Packed
  tested_packed e b = bad_packed t w _ _ h (long values ∙ e) (λ f. b (sym (long packed) ∙ f ∙ ap (λ k. k * w) side))

  pub tested_good : length values ≡ 1024 → length packed ≡ n * w → answer_for (pack_takes t w (numbers values) (numbers packed)) ≡ Done
  tested_good e f = good_block t w _ _ h (long values ∙ e) (long packed ∙ f ∙ ap (λ k. k * w) (sym side))
