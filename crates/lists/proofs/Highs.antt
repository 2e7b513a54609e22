-- The laws of the highest number of a list, and what it says of the search for the lowest place at or beyond a limit.
-- Assumes nothing.
use mathlib.Core.List.{List, [], ◌∷◌}
use mathlib.Core.Logic.{◌↔◌}
use mathlib.Core.Path.{◌≡◌, ◌∙◌}
use Prim.Native.Nat.{ℕ, zero, suc, ◌+◌, ◌≤◌, ◌<◌, max, zero-le, suc-le-suc}
use native.Mathlib.Decide.{dec_le}
use native.Mathlib.Nat.{le_of_suc-le-suc, not-suc-le-zero}
use native.Mathlib.Numerals.{add-one}
use native.Mathlib.Omega.{arith}
use lib.ListN.{length, get_or, drop, drop_of_length-le}
use lib.Seq.{drop-cons}
use Rattle.lists.specs.Members.{Stands}
use Rattle.lists.specs.Search.{first_beyond}
use Rattle.lists.specs.Ends.{highest_of}
use Rattle.lists.proofs.Search.{first-beyond-none}

-- no number of the list is higher
pub highest_bound : (xs : List ℕ) (i : ℕ) → i < length xs → get_or xs i 0 ≤ highest_of xs
unfolding highest_of
highest_bound [] i h = absurd (not-suc-le-zero h)
highest_bound (x ∷ xs) zero h = omega arith
highest_bound (x ∷ xs) (suc i) h = let m : get_or xs i 0 ≤ highest_of xs = highest_bound xs i (le_of_suc-le-suc h) in omega arith

-- it is below what every number is below
pub highest-below : (n : ℕ) (xs : List ℕ) → 0 < n → ((i : ℕ) → i < length xs → get_or xs i 0 < n) → highest_of xs < n
unfolding highest_of
highest-below n [] some all = some
highest-below n (x ∷ xs) some all =
    let m : highest_of xs < n = highest-below n xs some (λ i h. all (suc i) (suc-le-suc h)) in
    let h : x < n = all 0 (suc-le-suc zero-le) in
    omega arith

-- The highest number of a list that is not empty stands in it.
pub highest-stands : (xs : List ℕ) → 0 < length xs → Stands (highest_of xs) xs
unfolding highest_of
highest-stands [] h = absurd (not-suc-le-zero h)
highest-stands (x ∷ []) h = (zero, h, omega arith)
highest-stands (x ∷ y ∷ ys) h =
    let rest = highest-stands (y ∷ ys) (suc-le-suc zero-le) in
    elim (dec_le (highest_of (y ∷ ys)) x) [
      | yes low ↦ (zero, suc-le-suc zero-le, omega arith)
      | no high ↦ (suc rest.0, suc-le-suc rest.1, rest.2 ∙ omega arith)
    ]

-- No place of a list that is not empty is at or beyond the limit exactly when the highest number is below it.
pub highest-beyond : (n : ℕ) (xs : List ℕ) → 0 < length xs → (highest_of xs < n) ↔ (first_beyond n xs ≡ length xs)
highest-beyond n xs some = (
  (λ h. (first-beyond-none n xs).1 (λ i b. omega (arith, highest_bound xs i b))),
  (λ e. let all : (i : ℕ) → i < length xs → get_or xs i 0 < n = (first-beyond-none n xs).0 e in
      highest-below n xs (omega (arith, all 0 some)) all),
)

-- what the loop that looks for it keeps: the highest number of the places passed, with those still to come, is the
-- highest of all
pub record Passed (xs : List ℕ) (high i : ℕ) : Type 0 where
  pub within : i ≤ length xs
  pub same : max high (highest_of (drop i xs)) ≡ highest_of xs

pub passed_none : (xs : List ℕ) → Passed xs 0 0
passed_none xs = record { within = omega arith; same = omega arith }

pub passed-next : {xs : List ℕ} {high i : ℕ} (next : ℕ) → Passed xs high i → i < length xs → next ≡ max high (get_or xs i 0) → Passed xs next (i + 1)
unfolding highest_of
passed-next {xs} {high} {i} next p h e =
    let s : max high (highest_of (get_or xs i 0 ∷ drop (suc i) xs)) ≡ highest_of xs = rw (drop-cons xs i 0 h) at p.same in
    record { within = omega arith; same = rw add-one (omega arith) }

pub passed_all : {xs : List ℕ} {high i : ℕ} → Passed xs high i → length xs ≤ i → high ≡ highest_of xs
unfolding highest_of
passed_all {xs} {high} {i} p h =
    let e : max high (highest_of []) ≡ highest_of xs = rw (drop_of_length-le xs h) at p.same in
    omega arith
