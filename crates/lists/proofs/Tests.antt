-- What two tests as one, and one of two tests, tell of each, and that a test passes or fails.
-- Assumes nothing.
use mathlib.Core.Bool.{Bool, true, false}
use mathlib.Core.Logic.{◌⊎◌, inl, inr}
use mathlib.Core.Path.{◌≡◌, refl, sym}
use borrow.Author.Tests.{eqb-false}
use Rattle.lists.specs.Pick.{both, either}

-- What two tests as one tell of each, and that a test does not both pass and fail.
pub both_true : (a b : Bool) → both a b ≡ true → (a ≡ true) × (b ≡ true)
both_true true b e = (refl, e)
both_true false true e = (e, refl)
both_true false false e = (e, e)

pub either_true : (a b : Bool) → either a b ≡ true → (a ≡ true) ⊎ (b ≡ true)
either_true true b e = inl refl
either_true false b e = inr e

-- A test that does not pass fails.
pub not_then : (b : Bool) → (b ≡ true → ⊥) → b ≡ false
not_then true n = absurd (n refl)
not_then false n = refl

pub false-true : false ≡ true → ⊥
false-true e = eqb-false 0 0 (sym e) refl
