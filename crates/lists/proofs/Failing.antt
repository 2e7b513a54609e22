-- The laws of the list of the numbers whose test fails, from those of the numbers that pass: it has each of them and
-- no other, and it rises; and how lists of neighbouring ranges join.
-- Assumes nothing.
use mathlib.Core.Bool.{Bool, true, false}
use mathlib.Core.List.{[], ◌∷◌, ◌++◌, map}
use mathlib.Core.Path.{◌≡◌, refl, ap, ◌∙◌}
use Prim.Native.Nat.{ℕ, ◌+◌, ◌≤◌, ◌<◌}
use native.Mathlib.Nat.{zero-add}
use native.Mathlib.Omega.{arith}
use lib.ListN.{length, get_or}
use Rattle.lists.specs.Members.{Stands, Rising}
use Rattle.lists.specs.Passing.{passing, failing_from}
use Rattle.lists.specs.Pick.{fails}
use Rattle.lists.proofs.Members.{stands-passes, passes-stands, passing-rises}
use Rattle.lists.proofs.Passing.{one, passing-next, passing-split, passing_ext, passing_nothing, passing-length, passing-moved, map-passing}
use Rattle.lists.proofs.Tests.{false-true}

-- Two neighbouring ranges are one.
pub failing_append : (s n m : ℕ) (test : ℕ → Bool) → failing_from s (n + m) test ≡ failing_from s n test ++ failing_from (s + n) m test
unfolding failing_from
failing_append s n m test = passing-split s n m (λ i. fails (test i))

-- One number more, which passes or fails.
failing_next : (n : ℕ) (test : ℕ → Bool) → failing_from 0 (n + 1) test ≡ failing_from 0 n test ++ one (fails (test n)) n
unfolding failing_from
failing_next n test =
    passing-next 0 n (λ i. fails (test i)) ∙ ap (λ k. passing 0 n (λ i. fails (test i)) ++ one (fails (test k)) k) (zero-add n)

pub failing_passed : (n : ℕ) (test : ℕ → Bool) → test n ≡ true → failing_from 0 (n + 1) test ≡ failing_from 0 n test ++ []
failing_passed n test e = failing_next n test ∙ ap (λ b. failing_from 0 n test ++ one (fails b) n) e

pub failing_failed : (n : ℕ) (test : ℕ → Bool) → test n ≡ false → failing_from 0 (n + 1) test ≡ failing_from 0 n test ++ (n ∷ [])
failing_failed n test e = failing_next n test ∙ ap (λ b. failing_from 0 n test ++ one (fails b) n) e

-- There are at most n of them.
pub failing_few : (s n : ℕ) (test : ℕ → Bool) → length (failing_from s n test) ≤ n
unfolding failing_from
failing_few s n test = passing-length s n (λ i. fails (test i))

-- Two tests that agree on the range give one list.
pub failing_ext : (s n : ℕ) (f g : ℕ → Bool) → ((i : ℕ) → s ≤ i → i < s + n → f i ≡ g i) → failing_from s n f ≡ failing_from s n g
unfolding failing_from
failing_ext s n f g same = passing_ext s n (λ i. fails (f i)) (λ i. fails (g i)) (λ i low high. ap fails (same i low high))

-- A range that begins a numbers later has the numbers of the first, each a higher.
pub failing_shift : (a s n : ℕ) (test : ℕ → Bool) → failing_from (a + s) n test ≡ map (λ p. a + p) (failing_from s n (λ p. test (a + p)))
unfolding failing_from
failing_shift a s n test = passing-moved a s n (λ i. fails (test i))

-- Two rules that agree on the range make one list.
pub map_failing : {B : Type 0} (f g : ℕ → B) (test : ℕ → Bool) (s n : ℕ) → ((p : ℕ) → s ≤ p → p < s + n → f p ≡ g p)
    → map f (failing_from s n test) ≡ map g (failing_from s n test)
unfolding failing_from
map_failing f g test s n same = map-passing f g (λ i. fails (test i)) s n same

-- Each number of the list is in the range, and its test fails.
pub record Failed (s n : ℕ) (test : ℕ → Bool) (p : ℕ) : Type 0 where
  pub low : s ≤ p
  pub high : p < s + n
  pub fails : test p ≡ false

failed : (b : Bool) → fails b ≡ true → b ≡ false
failed true e = absurd (false-true e)
failed false e = refl

pub failing_each : (s n : ℕ) (test : ℕ → Bool) (k : ℕ) → k < length (failing_from s n test) → Failed s n test (get_or (failing_from s n test) k 0)
unfolding failing_from
failing_each s n test k h =
    let is = stands-passes s (λ i. fails (test i)) n k h in
    record { low = is.0; high = is.1.0; fails = failed (test (get_or (passing s n (λ i. fails (test i))) k 0)) is.1.1 }

-- The list rises.
pub failing_rising : (s n : ℕ) (test : ℕ → Bool) → Rising (failing_from s n test)
unfolding failing_from
failing_rising s n test = passing-rises s (λ i. fails (test i)) n

-- Every number of the range whose test fails stands in the list.
pub failing_all : (s n : ℕ) (test : ℕ → Bool) (p : ℕ) → s ≤ p → p < s + n → test p ≡ false → Stands p (failing_from s n test)
unfolding failing_from
failing_all s n test p low high e = passes-stands s (λ i. fails (test i)) n p low high (ap fails e)

-- The list is empty where every test of the range passes.
pub failing_none : (n : ℕ) (test : ℕ → Bool) → ((i : ℕ) → i < n → test i ≡ true) → failing_from 0 n test ≡ []
unfolding failing_from
failing_none n test pass = passing_nothing 0 n (λ i. fails (test i)) (λ i _ h. ap fails (pass i (omega arith)))
