-- What the tests of a list of pairs say of numbers, step by step, and a list read along an order.
-- Assumes nothing.
use mathlib.Core.Bool.{Bool, true, false}
use mathlib.Core.List.{List}
use mathlib.Core.Path.{◌≡◌, refl, sym, ap, ap₂, ◌∙◌}
use Prim.Native.Nat.{ℕ, ◌-◌, ◌≤◌, ◌<◌}
use native.Mathlib.Omega.{arith}
use lib.Dec.{eqb, ltb}
use lib.ListN.{length, get_or}
use borrow.Author.Tests.{eq-eqb, ne_eqb, lt-ltb, le-ltb, ltb-true}
use Rattle.lists.specs.Pick.{both, either}
use Rattle.lists.proofs.Search.{first_only}
use Rattle.lists.proofs.Tabs.{length-tab, get_d_tab}
use Rattle.lists.proofs.Tests.{both_true}
use Rattle.renumber.specs.Pairs.{rises_at, unrising_at, is_behind, is_ordered_at, disordered_at, along}

-- A list read along an order has as many numbers as the order,
pub length-along : (order xs : List ℕ) → length (along order xs) ≡ length order
unfolding along
length-along order xs = length-tab (length order) (λ i. get_or xs (get_or order i 0) 0)

-- and these.
pub get_d_along : (order xs : List ℕ) (i : ℕ) → i < length order → get_or (along order xs) i 0 ≡ get_or xs (get_or order i 0) 0
unfolding along
get_d_along order xs i h = get_d_tab (length order) (λ i. get_or xs (get_or order i 0) 0) i 0 h

either-false : (b : Bool) → b ≡ either b false
either-false true = refl
either-false false = refl

either_true : (b : Bool) → true ≡ either b true
either_true true = refl
either_true false = refl

module _ (xs : List ℕ) (i : ℕ) where
  pub rises-first : i ≡ 0 → rises_at xs i ≡ true
  rises-first e = ap (λ b. either b (ltb (get_or xs (i - 1) 0) (get_or xs i 0))) (eq-eqb i 0 e)

  pub rises_later : get_or xs (i - 1) 0 < get_or xs i 0 → rises_at xs i ≡ true
  rises_later h = ap (either (eqb i 0)) (lt-ltb _ _ h) ∙ sym (either_true (eqb i 0))

  pub rises-not : 0 < i → get_or xs i 0 ≤ get_or xs (i - 1) 0 → rises_at xs i ≡ false
  rises-not some h = ap₂ either (ne_eqb i 0 (λ e. omega arith)) (le-ltb _ _ h)

-- The place at which the search for a place that does not rise stops.
module _ (xs : List ℕ) (i : ℕ) (before : (k : ℕ) → k < i → rises_at xs k ≡ true) where
  pub unrising-found : 0 < i → i < length xs → get_or xs i 0 ≤ get_or xs (i - 1) 0 → i ≡ unrising_at xs
  unfolding unrising_at
  unrising-found some there h = first_only (length xs) i (rises_at xs) (omega arith) before (λ _. rises-not xs i some h)

  pub unrising-none : length xs ≤ i → length xs ≡ unrising_at xs
  unfolding unrising_at
  unrising-none all = first_only (length xs) (length xs) (rises_at xs) (omega arith) (λ k h. before k (omega arith)) (λ h. absurd (omega arith))

module _ (new : List ℕ) (p q : ℕ) where
  pub behind_equal : get_or new p 0 ≡ get_or new q 0 → ltb p q ≡ is_behind new p q
  behind_equal e =
      sym (ap₂ (λ a b. either a (both b (ltb p q))) (le-ltb (get_or new p 0) (get_or new q 0) (omega arith)) (eq-eqb (get_or new p 0) (get_or new q 0) e))

  pub behind-other : (get_or new p 0 ≡ get_or new q 0 → ⊥) → ltb (get_or new p 0) (get_or new q 0) ≡ is_behind new p q
  behind-other n =
      either-false (ltb (get_or new p 0) (get_or new q 0))
      ∙ sym (ap (λ b. either (ltb (get_or new p 0) (get_or new q 0)) (both b (ltb p q))) (ne_eqb (get_or new p 0) (get_or new q 0) n))

module _ (new order : List ℕ) (i : ℕ) where
  pub ordered-beyond : length new ≤ get_or order i 0 → false ≡ is_ordered_at new order i
  ordered-beyond h =
      sym (ap (λ b. both b (either (eqb i 0) (is_behind new (get_or order (i - 1) 0) (get_or order i 0)))) (le-ltb (get_or order i 0) (length new) h))

  pub ordered-first : get_or order i 0 < length new → i ≡ 0 → true ≡ is_ordered_at new order i
  ordered-first h e =
      sym (ap₂ (λ a b. both a (either b (is_behind new (get_or order (i - 1) 0) (get_or order i 0)))) (lt-ltb (get_or order i 0) (length new) h) (eq-eqb i 0 e))

  pub ordered_later : get_or order i 0 < length new → (i ≡ 0 → ⊥)
      → is_behind new (get_or order (i - 1) 0) (get_or order i 0) ≡ is_ordered_at new order i
  ordered_later h n =
      sym (ap₂ (λ a b. both a (either b (is_behind new (get_or order (i - 1) 0) (get_or order i 0)))) (lt-ltb (get_or order i 0) (length new) h) (ne_eqb i 0 n))

  -- A place that is ordered says a pair that is there.
  pub ordered_there : is_ordered_at new order i ≡ true → get_or order i 0 < length new
  ordered_there e = ltb-true _ _ (both_true _ _ e).0

-- The place at which the search for a place that is not ordered stops.
module _ (new order : List ℕ) (i : ℕ) (within : i ≤ length order) (before : (k : ℕ) → k < i → is_ordered_at new order k ≡ true) where
  pub disordered-found : is_ordered_at new order i ≡ false → i ≡ disordered_at new order
  unfolding disordered_at
  disordered-found bad = first_only (length order) i (is_ordered_at new order) within before (λ _. bad)

  pub disordered-none : length order ≤ i → i ≡ disordered_at new order
  unfolding disordered_at
  disordered-none all = first_only (length order) i (is_ordered_at new order) within before (λ h. absurd (omega arith))
