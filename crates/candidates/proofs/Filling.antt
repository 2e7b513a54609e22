-- What the three candidates leave in the lists that are lent for them: the body at the front, and behind it what was
-- there.
-- Assumes nothing.
use Rattle.std.proofs.Common.{◌≡◌, ℕ, ◌+◌, ◌-◌, ◌*◌, ◌≤◌, List, ◌++◌, length, get_or, take, drop, sym, ap, ◌∙◌, ap₂, append_assoc, zero-add, arith, length-take-le, drop-drop}
use borrow.Rule.Slice.PartMut.{put_mid}
use Rattle.lists.specs.Tab.{over}
use Rattle.lists.proofs.Overs.{over_append}
use Rattle.lists.proofs.Tabs.{tab_ext}
use Rattle.places.specs.Sizes.{t64}
use Rattle.places.specs.Places.{place, order}
use Rattle.places.proofs.Places.{place-lane}
use Rattle.rows.specs.Rows.{load_of, store_of}
use Rattle.rows.proofs.Rows.{load-room, store-room}
use Rattle.packing.specs.Calls.{pack_leaves}
use Rattle.packing.specs.Packed.{pack_of}
use Rattle.packing.proofs.Answers.{pack-leaves}
use Rattle.packing.proofs.Rounds.{length-pack}
use Rattle.deltas.specs.Calls.{for_pack_leaves}
use Rattle.deltas.specs.Deltas.{for_pack_of}
use Rattle.deltas.proofs.Answers.{for_pack-leaves}
use Rattle.deltas.proofs.Lanes.{length_for_pack}
use Rattle.candidates.specs.Candidates.{base_of, differences}
use Rattle.candidates.proofs.Choice.{length-base}

-- A list at the front of another is written over it.
front-lent : (x l : List ℕ) (n : ℕ) → length x ≡ n → x ++ drop n l ≡ over 0 x l
unfolding over
front-lent x l n e = ap (λ k. x ++ drop k l) (sym (zero-add (length x) ∙ e))

-- A list in the middle of another is.
mid_lent : (x l : List ℕ) (a n : ℕ) → length x ≡ n → put_mid a n l x ≡ over a x l
unfolding over
mid_lent x l a n e =
    ap (λ y. take a l ++ (x ++ y)) (drop-drop n a l ∙ ap (λ k. drop (a + k) l) (sym e)) ∙ sym (append_assoc (take a l) x (drop (a + length x) l))

module _ (w : ℕ) (values words : List ℕ) (h : w ≤ 64) (long : length values ≡ 1024) (room : 16 * w ≤ length words) where
  pub filled-plain : pack_leaves t64 w values (take (16 * w) words) ++ drop (16 * w) words ≡ over 0 (pack_of t64 w values) words
  filled-plain =
      ap (λ x. x ++ drop (16 * w) words) (pack-leaves t64 w values (take (16 * w) words) h long (length-take-le (16 * w) words room))
      ∙ front-lent (pack_of t64 w values) words (16 * w) (length-pack t64 w values)

module _ (w : ℕ) (values words : List ℕ) (reference : ℕ) (h : w ≤ 64) (long : length values ≡ 1024) (room : 16 * w ≤ length words) where
  pub filled-frame : for_pack_leaves t64 w values (take (16 * w) words) reference ++ drop (16 * w) words ≡ over 0 (for_pack_of t64 w values reference) words
  filled-frame =
      ap (λ x. x ++ drop (16 * w) words) (for_pack-leaves t64 w values (take (16 * w) words) h long (length-take-le (16 * w) words room) reference)
      ∙ front-lent (for_pack_of t64 w values reference) words (16 * w) (length_for_pack t64 w values reference)

-- The base is the first row of the block.
pub base-first : (values : List ℕ) (l : ℕ) → get_or values l 0 ≡ get_or values (place 0 l) 0
unfolding place order
base-first values l = ap (λ k. get_or values k 0) (sym (place-lane 0 l ∙ zero-add l))

pub base_loaded : (values : List ℕ) → length values ≡ 1024 → load_of t64 values ≡ base_of values
unfolding base_of
base_loaded values long =
    sym (load-room t64 values (omega arith)) ∙ tab_ext 16 (λ l. get_or values l 0) (λ l. get_or values (place 0 l) 0) 0 (λ l _. base-first values l)

module _ (w : ℕ) (values words : List ℕ) (lv : length values ≡ 1024) (room : 16 + 16 * w ≤ length words) where
  -- The base is stored, and the packed differences take the place of what is behind it.
  pub filled-steps : put_mid 16 (16 + 16 * w - 16) (store_of words (load_of t64 values)) (pack_of t64 w (differences values))
      ≡ over 0 (base_of values ++ pack_of t64 w (differences values)) words
  filled-steps =
      ap₂ (λ s k. put_mid 16 k s (pack_of t64 w (differences values))) stored_base part
      ∙ mid_lent (pack_of t64 w (differences values)) s 16 (16 * w) (length-pack t64 w (differences values))
      ∙ ap (λ k. over k (pack_of t64 w (differences values)) s) (sym (zero-add (length (base_of values)) ∙ length-base values))
      ∙ over_append 0 (base_of values) (pack_of t64 w (differences values)) words (omega (arith, length-base values, length-pack t64 w (differences values)))
    where
      s : List ℕ
      s = over 0 (base_of values) words

      stored_base : store_of words (load_of t64 values) ≡ s
      stored_base =
          ap (store_of words) (base_loaded values lv) ∙ sym (store-room words (base_of values) (omega (arith, length-base values)))

      part : 16 + 16 * w - 16 ≡ 16 * w
      part = omega arith
