-- The laws of the search for the lowest that fails: of a list of tests, and from them of the numbers below a count
-- and of a list of numbers that have to be below a limit. `first_only` and `first-beyond_only` are what a search loop
-- cites at each of its ends: it knows that what it has passed does not fail.
-- Assumes nothing.
use mathlib.Core.Bool.{Bool, true, false}
use mathlib.Core.List.{List, [], ◌∷◌, map}
use mathlib.Core.Logic.{◌↔◌}
use mathlib.Core.Path.{◌≡◌, refl, sym, ap, ◌∙◌}
use Prim.Native.Nat.{ℕ, zero, suc, ◌≤◌, ◌<◌, zero-le, suc-le-suc}
use native.Mathlib.Nat.{le_of_suc-le-suc, not-suc-le-zero}
use native.Mathlib.Omega.{arith}
use lib.Dec.{ltb}
use lib.ListN.{length, get_or, length-map, get_or-map}
use borrow.Author.Tests.{lt-ltb, le-ltb, ltb-true, ltb-false}
use Rattle.lists.specs.Pick.{pick}
use Rattle.lists.specs.Search.{first_failing, first_bad, first_beyond}
use Rattle.lists.specs.Tab.{tab}
use Rattle.lists.proofs.Tabs.{length-tab, get_d_tab}

-- ---- of a list of tests

-- The search gives a place of the list, or its length,
failing_le : (ts : List Bool) → first_failing ts ≤ length ts
unfolding first_failing
failing_le [] = zero-le
failing_le (t ∷ ts) = go t (failing_le ts)
  where
    go : (t : Bool) → first_failing ts ≤ length ts → pick t (suc (first_failing ts)) 0 ≤ suc (length ts)
    go true h = suc-le-suc h
    go false h = zero-le

module _ (d : Bool) where
  -- every test below the place that it gives passes,
  failing_before : (ts : List Bool) (i : ℕ) → i < first_failing ts → get_or ts i d ≡ true
  unfolding first_failing
  failing_before [] i h = absurd (not-suc-le-zero h)
  failing_before (t ∷ ts) i h = go t (failing_before ts) i h
    where
      go : (t : Bool) → ((i : ℕ) → i < first_failing ts → get_or ts i d ≡ true) → (i : ℕ) → i < pick t (suc (first_failing ts)) 0 → get_or (t ∷ ts) i d ≡ true
      go true later zero h = refl
      go true later (suc i) h = later i (le_of_suc-le-suc h)
      go false later i h = absurd (not-suc-le-zero h)

  -- where it gives a place of the list, the test there fails,
  failing_at : (ts : List Bool) → first_failing ts < length ts → get_or ts (first_failing ts) d ≡ false
  unfolding first_failing
  failing_at [] h = absurd (not-suc-le-zero h)
  failing_at (t ∷ ts) h = go t (failing_at ts) h
    where
      go : (t : Bool) → (first_failing ts < length ts → get_or ts (first_failing ts) d ≡ false)
          → pick t (suc (first_failing ts)) 0 < suc (length ts) → get_or (t ∷ ts) (pick t (suc (first_failing ts)) 0) d ≡ false
      go true later h = later (le_of_suc-le-suc h)
      go false later h = refl

  -- and no other place has these properties.
  failing_only : (ts : List Bool) (p : ℕ) → p ≤ length ts → ((i : ℕ) → i < p → get_or ts i d ≡ true) → (p < length ts → get_or ts p d ≡ false)
      → p ≡ first_failing ts
  unfolding first_failing
  failing_only [] p within before at = omega arith
  failing_only (t ∷ ts) zero within before at = simp (at (suc-le-suc zero-le))
  failing_only (t ∷ ts) (suc p) within before at =
      simp (before zero (suc-le-suc zero-le))
      (ap suc (failing_only ts p (le_of_suc-le-suc within) (λ i h. before (suc i) (suc-le-suc h)) (λ h. at (suc-le-suc h))))

-- ---- of the numbers below a count

module _ (n : ℕ) (test : ℕ → Bool) where
  -- The search stays within n,
  pub first_le : first_bad n test ≤ n
  unfolding first_bad
  first_le = omega (arith, failing_le (tab n test), length-tab n test)

  -- every number in front of what it gives passes the test,
  pub first-before : (i : ℕ) → i < first_bad n test → test i ≡ true
  unfolding first_bad
  first-before i h =
      let below : i < n = omega (arith, failing_le (tab n test), length-tab n test) in
      sym (get_d_tab n test i true below) ∙ failing_before true (tab n test) i h

  -- and what it gives fails it, unless it is n.
  pub first-at : first_bad n test < n → test (first_bad n test) ≡ false
  unfolding first_bad
  first-at h =
      sym (get_d_tab n test (first_failing (tab n test)) true h)
      ∙ failing_at true (tab n test) (omega (arith, length-tab n test))

-- No other number than the one that the search gives has passed all before it and fails, or is n.
pub first_only : (n p : ℕ) (test : ℕ → Bool) → p ≤ n → ((i : ℕ) → i < p → test i ≡ true) → (p < n → test p ≡ false)
    → p ≡ first_bad n test
unfolding first_bad
first_only n p test within before at =
    failing_only true (tab n test) p (omega (arith, length-tab n test))
    (λ i h. get_d_tab n test i true (omega arith) ∙ before i h)
    (λ h. let below : p < n = omega (arith, length-tab n test) in get_d_tab n test p true below ∙ at below)

-- Two tests that agree below n are failed first at one place.
pub first_ext : (n : ℕ) (f g : ℕ → Bool) → ((i : ℕ) → i < n → f i ≡ g i) → first_bad n f ≡ first_bad n g
first_ext n f g same =
    let low : first_bad n f ≤ n = first_le n f in
    first_only n (first_bad n f) g low
    (λ i h. sym (same i (omega arith)) ∙ first-before n f i h)
    (λ h. sym (same (first_bad n f) h) ∙ first-at n f h)

-- ---- of a list of numbers and a limit

module _ (n : ℕ) (xs : List ℕ) where
  tests : List Bool
  tests = map (λ x. ltb x n) xs

  tests_long : length tests ≡ length xs
  unfolding tests
  tests_long = length-map xs (λ x. ltb x n)

  tested_at : (i : ℕ) → get_or tests i (ltb 0 n) ≡ ltb (get_or xs i 0) n
  unfolding tests
  tested_at i = get_or-map (λ x. ltb x n) xs i 0

  -- the search gives a place of the list, or its length
  pub first-beyond_le : first_beyond n xs ≤ length xs
  unfolding first_beyond tests
  first-beyond_le = omega (arith, failing_le (map (λ x. ltb x n) xs), tests_long)

  -- every place below the one that it gives holds a number below the limit
  pub first-beyond-before : (i : ℕ) → i < first_beyond n xs → get_or xs i 0 < n
  unfolding first_beyond tests
  first-beyond-before i h = ltb-true (get_or xs i 0) n (sym (tested_at i) ∙ failing_before (ltb 0 n) (map (λ x. ltb x n) xs) i h)

  -- where it gives a place of the list, the number there is at or beyond the limit
  pub first-beyond-at : first_beyond n xs < length xs → n ≤ get_or xs (first_beyond n xs) 0
  unfolding first_beyond tests
  first-beyond-at h =
      ltb-false (get_or xs (first_failing (map (λ x. ltb x n) xs)) 0) n
      (sym (tested_at (first_failing (map (λ x. ltb x n) xs))) ∙ failing_at (ltb 0 n) (map (λ x. ltb x n) xs) (omega (arith, tests_long)))

  -- no other place has these properties
  pub first-beyond_only : (p : ℕ) → p ≤ length xs → ((i : ℕ) → i < p → get_or xs i 0 < n) → (p < length xs → n ≤ get_or xs p 0) → p ≡ first_beyond n xs
  unfolding first_beyond tests
  first-beyond_only p within before at =
      failing_only (ltb 0 n) (map (λ x. ltb x n) xs) p (omega (arith, tests_long))
      (λ i h. tested_at i ∙ lt-ltb (get_or xs i 0) n (before i h))
      (λ h. tested_at p ∙ le-ltb (get_or xs p 0) n (at (omega (arith, tests_long))))

  -- it gives the list's length exactly when every number is below the limit
  pub first-beyond-none : (first_beyond n xs ≡ length xs) ↔ ((i : ℕ) → i < length xs → get_or xs i 0 < n)
  first-beyond-none = (
    (λ e i h. first-beyond-before i (omega arith)),
    (λ all. sym (first-beyond_only (length xs) (omega arith) all (λ h. absurd (omega arith)))),
  )
