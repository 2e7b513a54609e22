-- How many bytes contents have, in either edition: an entry has sixteen or thirty-two.
-- Assumes nothing.
use mathlib.Core.Bool.{Bool, true, false}
use mathlib.Core.Logic.{◌⊎◌, inl, inr, ⊎_elim}
use mathlib.Core.Path.{◌≡◌, refl, ap}
use Prim.Native.Nat.{ℕ, ◌+◌, ◌*◌, ◌≤◌, ◌<◌}
use native.Mathlib.Omega.{arith}
use lib.Dec.{eqb}
use borrow.Author.Tests.{eq-eqb, ne_eqb, eqb-true, eqb-false}
use Rattle.lists.specs.Pick.{pick}
use Rattle.contents.specs.Contents.{entry_size, contents_size}

-- in edition 2, and in every other
pub size_second : (e n : ℕ) → e ≡ 2 → contents_size e n ≡ 4 + n * 32
unfolding contents_size entry_size
size_second e n h = ap (λ b. 4 + n * pick b 32 16) (eq-eqb e 2 h)

pub size-other : (e n : ℕ) → (e ≡ 2 → ⊥) → contents_size e n ≡ 4 + n * 16
unfolding contents_size entry_size
size-other e n h = ap (λ b. 4 + n * pick b 32 16) (ne_eqb e 2 h)

-- The first entry stands behind four bytes,
pub size_none : (e : ℕ) → contents_size e 0 ≡ 4
unfolding contents_size
size_none e = omega arith

-- and the next one behind the one before it.
pub size-next : (e i : ℕ) → contents_size e (i + 1) ≡ contents_size e i + entry_size e
unfolding contents_size entry_size
size-next e i = go (eqb e 2)
  where
    go : (b : Bool) → 4 + (i + 1) * pick b 32 16 ≡ 4 + i * pick b 32 16 + pick b 32 16
    go true = omega arith
    go false = omega arith

-- the one or the other, at every n
sizes : (e : ℕ) → ((n : ℕ) → contents_size e n ≡ 4 + n * 32) ⊎ ((n : ℕ) → contents_size e n ≡ 4 + n * 16)
sizes e = go (eqb e 2) refl
  where
    go : (b : Bool) → eqb e 2 ≡ b → ((n : ℕ) → contents_size e n ≡ 4 + n * 32) ⊎ ((n : ℕ) → contents_size e n ≡ 4 + n * 16)
    go true h = inl (λ n. size_second e n (eqb-true e 2 h))
    go false h = inr (λ n. size-other e n (eqb-false e 2 h))

-- An entry has its first sixteen bytes before the next one begins,
pub size-entry : (e i : ℕ) → contents_size e i + 16 ≤ contents_size e (i + 1)
size-entry e i = ⊎_elim (λ h. omega (arith, h i, h (i + 1))) (λ h. omega (arith, h i, h (i + 1))) (sizes e)

-- and in edition 2 all thirty-two.
pub size-range : (e i : ℕ) → e ≡ 2 → contents_size e i + 32 ≡ contents_size e (i + 1)
size-range e i h = omega (arith, size_second e i h, size_second e (i + 1) h)

-- The entries in front of entry n end before it begins.
pub size-before : (e i n : ℕ) → i < n → contents_size e (i + 1) ≤ contents_size e n
size-before e i n b = ⊎_elim (λ h. omega (arith, h (i + 1), h n)) (λ h. omega (arith, h (i + 1), h n)) (sizes e)

-- Contents have at most thirty-two bytes for an entry, and at least sixteen.
pub size-most : (e n : ℕ) → contents_size e n ≤ 4 + n * 32
size-most e n = ⊎_elim (λ h. omega (arith, h n)) (λ h. omega (arith, h n)) (sizes e)

pub size-least : (e n : ℕ) → 4 + n * 16 ≤ contents_size e n
size-least e n = ⊎_elim (λ h. omega (arith, h n)) (λ h. omega (arith, h n)) (sizes e)
