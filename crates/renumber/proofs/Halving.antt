-- Halving finds the lowest place of a rising list whose number is x or more: what is below the one bound is below x, and
-- what is from the other on is not.
-- Assumes nothing.
use mathlib.Core.List.{List}
use mathlib.Core.Path.{◌≡◌, sym, subst}
use Prim.Native.Nat.{ℕ, ◌+◌, ◌≤◌, ◌<◌}
use native.Mathlib.Decide.{ℕ_discrete}
use native.Mathlib.Omega.{arith}
use lib.ListN.{length, get_or}
use Rattle.lists.specs.Members.{Rising}
use Rattle.lists.specs.Search.{first_beyond}
use Rattle.lists.proofs.Search.{first-beyond_only}

pub record Halved (xs : List ℕ) (x low high : ℕ) : Type 0 where
  pub ordered : low ≤ high
  pub ends : high ≤ length xs
  pub below : (i : ℕ) → i < low → get_or xs i 0 < x
  pub above : (i : ℕ) → high ≤ i → i < length xs → x ≤ get_or xs i 0

pub halved_none : (xs : List ℕ) (x : ℕ) → Halved xs x 0 (length xs)
halved_none xs x = record {
  ordered = omega arith;
  ends = omega arith;
  below = λ i h. absurd (omega arith);
  above = λ i h m. absurd (omega arith);
}

module _ {xs : List ℕ} {x low high : ℕ} (rising : Rising xs) (so : Halved xs x low high) (m : ℕ) (least : low ≤ m) (most : m < high) where
  -- The number in the middle is below x, and so is every one before it.
  pub halved_up : get_or xs m 0 < x → Halved xs x (m + 1) high
  halved_up less = record {
    ordered = omega arith;
    ends = so.ends;
    below = λ i h.
        elim (ℕ_discrete i m) [
          | yes e ↦ subst (λ k. get_or xs k 0 < x) (sym e) less
          | no n ↦ let r = rising i m (omega arith) (omega (arith, so.ends)) in omega arith
        ];
    above = so.above;
  }

  -- It is not, and no later one is.
  pub halved_down : x ≤ get_or xs m 0 → Halved xs x low m
  halved_down more = record {
    ordered = least;
    ends = omega (arith, so.ends);
    below = so.below;
    above = λ i h b.
        elim (ℕ_discrete i m) [
          | yes e ↦ subst (λ k. x ≤ get_or xs k 0) (sym e) more
          | no n ↦ let r = rising m i (omega arith) b in omega arith
        ];
  }

-- Where the bounds meet is the place.
pub halved_done : {xs : List ℕ} {x low high : ℕ} → Halved xs x low high → high ≤ low → low ≡ first_beyond x xs
halved_done {xs} {x} {low} {high} so met =
    first-beyond_only x xs low (omega (arith, so.ordered, so.ends)) so.below (λ h. so.above low met h)
