-- The laws of the lowest number of a list, and what the loop that looks for it keeps.
-- Assumes nothing.
use mathlib.Core.List.{List, [], ◌∷◌}
use mathlib.Core.Path.{◌≡◌, ◌∙◌}
use Prim.Native.Nat.{ℕ, zero, suc, ◌+◌, ◌^◌, ◌≤◌, ◌<◌, min, zero-le, suc-le-suc}
use native.Mathlib.Decide.{dec_le}
use native.Mathlib.Nat.{le_of_suc-le-suc, not-suc-le-zero}
use native.Mathlib.Numerals.{add-one}
use native.Mathlib.Omega.{arith}
use lib.ListN.{length, get_or, drop, drop_of_length-le}
use lib.Seq.{drop-cons}
use Rattle.lists.specs.Members.{Stands}
use Rattle.lists.specs.Numbers.{Elements}
use Rattle.lists.specs.Ends.{lowest_of}

-- No number of a list is lower than the lowest;
pub lowest_bound : (xs : List ℕ) (i : ℕ) → i < length xs → lowest_of xs ≤ get_or xs i 0
unfolding lowest_of
lowest_bound [] i h = absurd (not-suc-le-zero h)
lowest_bound (x ∷ xs) zero h = omega arith
lowest_bound (x ∷ xs) (suc i) h = let m : lowest_of xs ≤ get_or xs i 0 = lowest_bound xs i (le_of_suc-le-suc h) in omega arith

-- the lowest of a list of elements that is not empty stands in it,
pub lowest-stands : (xs : List ℕ) → 0 < length xs → Elements 64 xs → Stands (lowest_of xs) xs
unfolding lowest_of
lowest-stands [] h fits = absurd (not-suc-le-zero h)
lowest-stands (x ∷ []) h fits = let small : x < 2 ^ 64 = fits 0 in (zero, h, omega arith)
lowest-stands (x ∷ y ∷ ys) h fits =
    let rest = lowest-stands (y ∷ ys) (suc-le-suc zero-le) (λ i. fits (suc i)) in
    elim (dec_le x (lowest_of (y ∷ ys))) [
      | yes low ↦ (zero, suc-le-suc zero-le, omega arith)
      | no high ↦ (suc rest.0, suc-le-suc rest.1, rest.2 ∙ omega arith)
    ]

-- and it is a number of 64 bits.
pub lowest-element : (xs : List ℕ) → lowest_of xs < 2 ^ 64
unfolding lowest_of
lowest-element [] = omega arith
lowest-element (x ∷ xs) = let m : lowest_of xs < 2 ^ 64 = lowest-element xs in omega arith

-- What the loop that looks for it keeps: the lowest number of the places passed, with those still to come, is the
-- lowest of all.
pub record Passed (xs : List ℕ) (low i : ℕ) : Type 0 where
  pub within : i ≤ length xs
  pub small : low < 18446744073709551616
  pub same : min low (lowest_of (drop i xs)) ≡ lowest_of xs

pub passed_none : (xs : List ℕ) → Passed xs 18446744073709551615 0
passed_none xs = record { within = omega arith; small = omega arith; same = omega (arith, lowest-element xs) }

pub passed-next : {xs : List ℕ} {low i : ℕ} (next : ℕ) → Passed xs low i → i < length xs → next ≡ min low (get_or xs i 0) → Passed xs next (i + 1)
unfolding lowest_of
passed-next {xs} {low} {i} next p h e =
    let s : min low (lowest_of (get_or xs i 0 ∷ drop (suc i) xs)) ≡ lowest_of xs = rw (drop-cons xs i 0 h) at p.same in
    let small : low < 18446744073709551616 = p.small in
    record { within = omega arith; small = omega arith; same = rw add-one (omega arith) }

pub passed_all : {xs : List ℕ} {low i : ℕ} → Passed xs low i → length xs ≤ i → low ≡ lowest_of xs
unfolding lowest_of
passed_all {xs} {low} {i} p h =
    let small : low < 18446744073709551616 = p.small in
    let e : min low (lowest_of []) ≡ lowest_of xs = rw (drop_of_length-le xs h) at p.same in
    omega arith
