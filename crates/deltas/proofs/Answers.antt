-- What the calls of deltas answer, by the tests that they make, and what they leave where they are done, over the
-- element size.
-- Assumes nothing.
use mathlib.Core.Path.{◌≡◌, sym, ap, ◌∙◌}
use mathlib.Core.List.{List}
use Prim.Native.Nat.{ℕ, ◌*◌, ◌≤◌, ◌<◌}
use lib.ListN.{length}
use borrow.Author.Tests.{le-leb, lt-leb, eq-eqb, ne_eqb}
use Rattle.places.specs.declared.Answer.TheVariants.{Done, Width, Block, Packed, Base}
use Rattle.places.specs.Answers.{left}
use Rattle.places.specs.Sizes.{lanes}
use Rattle.places.specs.Takes.{answer_for}
use Rattle.packing.proofs.Answers.{good_block}
use Rattle.deltas.specs.Calls.{delta_takes, delta_leaves, undelta_leaves, undelta_pack_takes, undelta_pack_leaves, for_pack_leaves, unfor_pack_leaves}
use Rattle.deltas.specs.Deltas.{delta_of, undelta_of, undelta_pack_of, for_pack_of, unfor_pack_of}

-- two blocks and a base

module _ (t : ℕ) (input base output : List ℕ) where
  pub delta_bad_input : (length input ≡ 1024 → ⊥) → answer_for (delta_takes t input base output) ≡ Block
  unfolding answer_for
  delta_bad_input b = simp (ne_eqb (length input) 1024 b)

  pub delta_bad_output : length input ≡ 1024 → (length output ≡ 1024 → ⊥) → answer_for (delta_takes t input base output) ≡ Block
  unfolding answer_for
  delta_bad_output e b = simp (eq-eqb (length input) 1024 e, ne_eqb (length output) 1024 b)

  pub delta_bad_base : length input ≡ 1024 → length output ≡ 1024 → (length base ≡ lanes t → ⊥) → answer_for (delta_takes t input base output) ≡ Base
  unfolding answer_for
  delta_bad_base e f b = simp (eq-eqb (length input) 1024 e, eq-eqb (length output) 1024 f, ne_eqb (length base) (lanes t) b)

  module _ (ei : length input ≡ 1024) (eo : length output ≡ 1024) (eb : length base ≡ lanes t) where
    pub delta-good : answer_for (delta_takes t input base output) ≡ Done
    unfolding answer_for
    delta-good = simp (eq-eqb (length input) 1024 ei, eq-eqb (length output) 1024 eo, eq-eqb (length base) (lanes t) eb)

    pub delta-leaves : delta_leaves t input base output ≡ delta_of t input base
    unfolding delta_leaves
    delta-leaves = ap (λ a. left a (delta_of t input base) output) delta-good

    pub undelta-leaves : undelta_leaves t input base output ≡ undelta_of t input base
    unfolding undelta_leaves
    undelta-leaves = ap (λ a. left a (undelta_of t input base) output) delta-good

-- a width, a block of values, a packed block and a base

module _ (t w : ℕ) (values packed base : List ℕ) where
  pub unpack_bad_width : t < w → answer_for (undelta_pack_takes t w values packed base) ≡ Width
  unfolding answer_for
  unpack_bad_width h = simp (lt-leb w t h)

  module _ (h : w ≤ t) where
    pub unpack_bad_block : (length values ≡ 1024 → ⊥) → answer_for (undelta_pack_takes t w values packed base) ≡ Block
    unfolding answer_for
    unpack_bad_block b = simp (le-leb w t h, ne_eqb (length values) 1024 b)

    pub unpack_bad_packed : length values ≡ 1024 → (length packed ≡ lanes t * w → ⊥) → answer_for (undelta_pack_takes t w values packed base) ≡ Packed
    unfolding answer_for
    unpack_bad_packed e b = simp (le-leb w t h, eq-eqb (length values) 1024 e, ne_eqb (length packed) (lanes t * w) b)

    pub unpack_bad_base : length values ≡ 1024 → length packed ≡ lanes t * w → (length base ≡ lanes t → ⊥)
        → answer_for (undelta_pack_takes t w values packed base) ≡ Base
    unfolding answer_for
    unpack_bad_base e f b =
        simp (le-leb w t h, eq-eqb (length values) 1024 e, eq-eqb (length packed) (lanes t * w) f, ne_eqb (length base) (lanes t) b)

    module _ (ev : length values ≡ 1024) (ep : length packed ≡ lanes t * w) (eb : length base ≡ lanes t) where
      pub unpack-good : answer_for (undelta_pack_takes t w values packed base) ≡ Done
      unfolding answer_for
      unpack-good =
          simp (le-leb w t h, eq-eqb (length values) 1024 ev, eq-eqb (length packed) (lanes t * w) ep, eq-eqb (length base) (lanes t) eb)

      pub undelta-pack-leaves : undelta_pack_leaves t w values packed base ≡ undelta_pack_of t w packed base
      unfolding undelta_pack_leaves
      undelta-pack-leaves = ap (λ a. left a (undelta_pack_of t w packed base) values) unpack-good

-- a width, a block of values and a packed block: for_pack and unfor_pack make the tests of pack and unpack

module _ (t w : ℕ) (values packed : List ℕ) (h : w ≤ t) (ev : length values ≡ 1024) (ep : length packed ≡ lanes t * w) where
  pub for_pack-leaves : (reference : ℕ) → for_pack_leaves t w values packed reference ≡ for_pack_of t w values reference
  unfolding for_pack_leaves
  for_pack-leaves reference = ap (λ a. left a (for_pack_of t w values reference) packed) (good_block t w values packed h ev ep)

  pub unfor_pack-leaves : (reference : ℕ) → unfor_pack_leaves t w values packed reference ≡ unfor_pack_of t w packed reference
  unfolding unfor_pack_leaves
  unfor_pack-leaves reference = ap (λ a. left a (unfor_pack_of t w packed reference) values) (good_block t w values packed h ev ep)

-- the same of lists of elements, by the tests that the code makes of them: n is LANES

module _ {A : Type 0} (numbers : List A → List ℕ) (long : (xs : List A) → length (numbers xs) ≡ length xs) (t : ℕ) {n : ℕ} (side : lanes t ≡ n) where
  module _ (input base output : List A) where
    pub tested_input : (length input ≡ 1024 → ⊥) → answer_for (delta_takes t (numbers input) (numbers base) (numbers output)) ≡ Block
    tested_input b = delta_bad_input t _ _ _ (λ e. b (sym (long input) ∙ e))

    module _ (ei : length input ≡ 1024) where
      pub tested_output : (length output ≡ 1024 → ⊥) → answer_for (delta_takes t (numbers input) (numbers base) (numbers output)) ≡ Block
      tested_output b = delta_bad_output t _ _ _ (long input ∙ ei) (λ e. b (sym (long output) ∙ e))

      pub tested_base : length output ≡ 1024 → (length base ≡ n → ⊥) → answer_for (delta_takes t (numbers input) (numbers base) (numbers output)) ≡ Base
      tested_base eo b = delta_bad_base t _ _ _ (long input ∙ ei) (long output ∙ eo) (λ e. b (sym (long base) ∙ e ∙ side))

      pub tested_delta : length output ≡ 1024 → length base ≡ n → answer_for (delta_takes t (numbers input) (numbers base) (numbers output)) ≡ Done
      tested_delta eo eb = delta-good t _ _ _ (long input ∙ ei) (long output ∙ eo) (long base ∙ eb ∙ sym side)

  module _ {w : ℕ} (values packed base : List A) (h : w ≤ t) where
    pub tested-unpack_block : (length values ≡ 1024 → ⊥) → answer_for (undelta_pack_takes t w (numbers values) (numbers packed) (numbers base)) ≡ Block
    tested-unpack_block b = unpack_bad_block t w _ _ _ h (λ e. b (sym (long values) ∙ e))

    module _ (ev : length values ≡ 1024) where
      pub tested-unpack_packed : (length packed ≡ n * w → ⊥) → answer_for (undelta_pack_takes t w (numbers values) (numbers packed) (numbers base)) ≡ Packed
      tested-unpack_packed b = unpack_bad_packed t w _ _ _ h (long values ∙ ev) (λ e. b (sym (long packed) ∙ e ∙ ap (λ k. k * w) side))

      module _ (ep : length packed ≡ n * w) where
        pub tested-unpack_base : (length base ≡ n → ⊥) → answer_for (undelta_pack_takes t w (numbers values) (numbers packed) (numbers base)) ≡ Base
        tested-unpack_base b =
            unpack_bad_base t w _ _ _ h (long values ∙ ev) (long packed ∙ ep ∙ ap (λ k. k * w) (sym side)) (λ e. b (sym (long base) ∙ e ∙ side))

        pub tested-unpack : length base ≡ n → answer_for (undelta_pack_takes t w (numbers values) (numbers packed) (numbers base)) ≡ Done
        tested-unpack eb =
            unpack-good t w _ _ _ h (long values ∙ ev) (long packed ∙ ep ∙ ap (λ k. k * w) (sym side)) (long base ∙ eb ∙ sym side)
