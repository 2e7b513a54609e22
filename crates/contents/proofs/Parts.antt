-- Reading through a part of the bytes: a byte and a number that lie within the part are those that stand there in the
-- bytes.
-- Assumes nothing.
use mathlib.Core.Path.{◌≡◌, refl, ap, ap₂, ◌∙◌}
use mathlib.Core.List.{List}
use Prim.Native.Nat.{ℕ, zero, suc, ◌+◌, ◌*◌, ◌≤◌, ◌<◌}
use native.Mathlib.Nat.{add-suc}
use native.Mathlib.Omega.{arith}
use lib.ListN.{length, get_or, take, drop, length-drop}
use lib.Seq.{get_or-take, get_or-drop, length-take-le}
use Rattle.little.specs.Little.{little, little_or}
use Rattle.little.proofs.Little.{little-within}

module _ (l : List ℕ) (at n : ℕ) where
  pub part-byte : (i : ℕ) → i < n → get_or (take n (drop at l)) i 0 ≡ get_or l (at + i) 0
  part-byte i h = get_or-take n (drop at l) i 0 h ∙ get_or-drop at l i 0

  part-little : (i k : ℕ) → i + k ≤ n → little (take n (drop at l)) i k ≡ little l (at + i) k
  unfolding little
  part-little i zero h = refl
  part-little i (suc k) h =
      ap₂ (λ byte rest. byte + rest * 256) (part-byte i (omega arith)) (part-little (suc i) k (omega arith) ∙ ap (λ p. little l p k) (add-suc at i))

  -- The part has all its bytes, and so the number is read.
  pub part-number : (i k : ℕ) → at + n ≤ length l → i + k ≤ n → little_or (take n (drop at l)) i k ≡ little l (at + i) k
  part-number i k there h =
      let long : length (take n (drop at l)) ≡ n = length-take-le n (drop at l) (omega (arith, length-drop at l)) in
      little-within (take n (drop at l)) i k (omega (arith, long)) ∙ part-little i k h
