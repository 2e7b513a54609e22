-- What comes back from a round of pack and unpack as calls, in either direction (R33, R34), over the element size and
-- the width. Each law speaks of what the calls answer and leave.
-- Assumes nothing.
use mathlib.Core.Path.{◌≡◌, ap, ◌∙◌}
use mathlib.Core.List.{List}
use Prim.Native.Nat.{ℕ, ◌*◌, ◌%◌, ◌^◌, ◌≤◌, ◌<◌}
use lib.ListN.{length, get_or}
use Rattle.lists.specs.Numbers.{Elements}
use Rattle.places.specs.declared.Answer.TheVariants.{Done}
use Rattle.places.specs.Sizes.{Size, lanes}
use Rattle.places.specs.Takes.{answer_for}
use Rattle.packing.specs.Calls.{pack_takes, pack_leaves, unpack_leaves}
use Rattle.packing.specs.Packed.{pack_of, unpack_of}
use Rattle.packing.proofs.Answers.{good_block, pack-leaves, unpack-leaves}
use Rattle.packing.proofs.Rounds.{length-pack, length-unpack, unpack-pack, pack-unpack}

module _ {t : ℕ} (s : Size t) (w : ℕ) (h : w ≤ t) where
  -- Pack, then unpack: both are done, and each value is left modulo 2^w.
  pub unpack-pack_calls : (v k o : List ℕ) → length v ≡ 1024 → length k ≡ lanes t * w → length o ≡ 1024
      → (answer_for (pack_takes t w v k) ≡ Done) × (answer_for (pack_takes t w o (pack_leaves t w v k)) ≡ Done)
      × ((p : ℕ) → p < 1024 → get_or (unpack_leaves t w o (pack_leaves t w v k)) p 0 ≡ get_or v p 0 % 2 ^ w)
  unpack-pack_calls v k o ev ek eo =
      let e : length (pack_of t w v) ≡ lanes t * w = length-pack t w v in
      rw (pack-leaves t w v k h ev ek) (
        good_block t w v k h ev ek,
        good_block t w o (pack_of t w v) h eo e,
        (λ p hp. ap (λ x. get_or x p 0) (unpack-leaves t w o (pack_of t w v) h eo e) ∙ unpack-pack s w v p hp),
      )

  -- Unpack, then pack: both are done, and every word is left as it was.
  pub pack-unpack_calls : (k v o : List ℕ) → length k ≡ lanes t * w → Elements t k → length v ≡ 1024 → length o ≡ lanes t * w
      → (answer_for (pack_takes t w v k) ≡ Done) × (answer_for (pack_takes t w (unpack_leaves t w v k) o) ≡ Done) × (pack_leaves t w (unpack_leaves t w v k) o ≡ k)
  pack-unpack_calls k v o ek fits ev eo =
      let e : length (unpack_of t w k) ≡ 1024 = length-unpack t w k in
      rw (unpack-leaves t w v k h ev ek) (
        good_block t w v k h ev ek,
        good_block t w (unpack_of t w k) o h e eo,
        pack-leaves t w (unpack_of t w k) o h e eo ∙ pack-unpack s w k ek fits,
      )
