-- Unpack and for_pack as calls that turn one part of a list into one part of another, over the element size.
-- Assumes nothing.
use mathlib.Core.List.{List}
use mathlib.Core.Path.{◌≡◌}
use Prim.Native.Nat.{ℕ, ◌+◌, ◌*◌, ◌≤◌}
use lib.ListN.{length, take, drop}
use borrow.Rule.Slice.PartMut.{put_mid}
use Rattle.lists.specs.Parts.{cut}
use Rattle.lists.specs.Tab.{over}
use Rattle.places.specs.Sizes.{lanes}
use Rattle.packing.specs.Calls.{unpack_leaves}
use Rattle.packing.specs.Packed.{unpack_of}
use Rattle.packing.proofs.Answers.{unpack-leaves}
use Rattle.packing.proofs.Rounds.{length-unpack}
use Rattle.deltas.specs.Calls.{for_pack_leaves}
use Rattle.deltas.specs.Deltas.{for_pack_of}
use Rattle.deltas.proofs.Answers.{for_pack-leaves}
use Rattle.deltas.proofs.Lanes.{length_for_pack}
use Rattle.drawers.proofs.Parts.{part_turned}

module _ (t w : ℕ) (h : w ≤ t) (packed values z : List ℕ) (b from to n k : ℕ) where
  pub unpack-part : from ≡ b * (lanes t * w) → b * (lanes t * w) + lanes t * w ≤ length packed → to + 1024 ≤ length values → n ≡ lanes t * w → k ≡ 1024
      → z ≡ unpack_leaves t w (take k (drop to values)) (take n (drop from packed))
      → put_mid to k values z ≡ over to (unpack_of t w (cut (lanes t * w) packed b)) values
  unpack-part = part_turned (λ part room. unpack_leaves t w room part) (unpack_of t w) (lanes t * w) 1024 (length-unpack t w)
      (λ part room lp lr. unpack-leaves t w room part h lr lp) packed values z b from to n k

  pub for_pack-part : (reference : ℕ) → from ≡ b * 1024 → b * 1024 + 1024 ≤ length values → to + lanes t * w ≤ length packed → n ≡ 1024 → k ≡ lanes t * w
      → z ≡ for_pack_leaves t w (take n (drop from values)) (take k (drop to packed)) reference
      → put_mid to k packed z ≡ over to (for_pack_of t w (cut 1024 values b) reference) packed
  for_pack-part reference = part_turned (λ part room. for_pack_leaves t w part room reference) (λ block. for_pack_of t w block reference) 1024 (lanes t * w)
      (λ block. length_for_pack t w block reference) (λ part room lp lr. for_pack-leaves t w part room h lp lr reference) values packed z b from to n k
