-- The lowest place of a number in a list: what it is, that a number stands in a list exactly when its place is there, and
-- that in a rising list halving finds it.
-- Assumes nothing.
use mathlib.Core.Bool.{Bool, true, false}
use mathlib.Core.List.{List}
use mathlib.Core.Path.{◌≡◌, refl, sym, ap, subst, ◌∙◌}
use Prim.Native.Nat.{ℕ, ◌≤◌, ◌<◌}
use native.Mathlib.Decide.{dec_lt, ℕ_discrete}
use native.Mathlib.Omega.{arith}
use lib.Dec.{eqb}
use lib.ListN.{length, get_or}
use borrow.Author.Tests.{eq-eqb, ne_eqb, eqb-true, eqb-false, lt-ltb, le-ltb, ltb-true}
use Rattle.lists.specs.Members.{Stands, Rising}
use Rattle.lists.specs.Pick.{fails}
use Rattle.lists.specs.Search.{first_beyond}
use Rattle.lists.proofs.Search.{first-before, first-at, first_only, first-beyond-before, first-beyond-at}
use Rattle.lists.proofs.Tests.{false-true}
use Rattle.renumber.specs.Pairs.{place_in, is_in}

fails-true : (b : Bool) → fails b ≡ true → b ≡ false
fails-true true e = absurd (false-true e)
fails-true false e = refl

fails-false : (b : Bool) → fails b ≡ false → b ≡ true
fails-false true e = refl
fails-false false e = absurd (false-true (sym e))

module _ (xs : List ℕ) (x : ℕ) where
  abbrev other : ℕ → Bool
  other i = fails (eqb (get_or xs i 0) x)

  -- At its place the number stands,
  pub place_is : place_in xs x < length xs → get_or xs (place_in xs x) 0 ≡ x
  unfolding place_in
  place_is h = eqb-true _ _ (fails-false _ (first-at (length xs) other h))

  -- and at none before.
  pub place-before : (i : ℕ) → i < place_in xs x → get_or xs i 0 ≡ x → ⊥
  unfolding place_in
  place-before i h = eqb-false _ _ (fails-true _ (first-before (length xs) other i h))

  -- No other place is so.
  pub place_only : (p : ℕ) → p ≤ length xs → ((i : ℕ) → i < p → get_or xs i 0 ≡ x → ⊥) → (p < length xs → get_or xs p 0 ≡ x) → p ≡ place_in xs x
  unfolding place_in
  place_only p within before at =
      first_only (length xs) p other within (λ i h. ap fails (ne_eqb _ _ (before i h))) (λ h. ap fails (eq-eqb _ _ (at h)))

  -- A number stands in a list exactly when its place is there.
  pub in_stands : is_in xs x ≡ true → Stands x xs
  in_stands e = let h : place_in xs x < length xs = ltb-true _ _ e in (place_in xs x, h, place_is h)

  pub stands_in : Stands x xs → is_in xs x ≡ true
  stands_in s =
      lt-ltb (place_in xs x) (length xs)
      (elim (dec_lt (place_in xs x) (length xs)) [
        | yes h ↦ h
        | no h ↦ absurd (place-before s.0 (omega (arith, s.1)) s.2)
      ])

  pub stands-out : (Stands x xs → ⊥) → is_in xs x ≡ false
  stands-out none =
      elim (dec_lt (place_in xs x) (length xs)) [
        | yes h ↦ absurd (none (place_in xs x, h, place_is h))
        | no h ↦ le-ltb (place_in xs x) (length xs) (omega arith)
      ]

  -- In a rising list it is where the numbers from x on begin, or it stands nowhere.
  module _ (rising : Rising xs) (p : ℕ) (from : p ≡ first_beyond x xs) where
    lower : (i : ℕ) → i < p → get_or xs i 0 < x
    lower i h = first-beyond-before x xs i (omega arith)

    pub place_found : p < length xs → get_or xs p 0 ≡ x → p ≡ place_in xs x
    place_found h e = place_only p (omega arith) (λ i b. let l = lower i b in λ m. omega arith) (λ _. e)

    pub stands-not : (p < length xs → get_or xs p 0 ≡ x → ⊥) → Stands x xs → ⊥
    stands-not other s =
        elim (dec_lt s.0 p) [
          | yes h ↦ let l = lower s.0 h in omega (arith, s.2)
          | no h ↦
              let there : p < length xs = omega (arith, s.1) in
              let least : x ≤ get_or xs p 0 = subst (λ k. x ≤ get_or xs k 0) (sym from) (first-beyond-at x xs (omega arith)) in
              elim (ℕ_discrete p s.0) [
                | yes e ↦ other there (ap (λ k. get_or xs k 0) e ∙ s.2)
                | no n ↦ let r = rising p s.0 (omega arith) s.1 in omega (arith, s.2)
              ]
        ]

    pub place_none : (p < length xs → get_or xs p 0 ≡ x → ⊥) → length xs ≡ place_in xs x
    place_none other = place_only (length xs) (omega arith) (λ i h e. stands-not other (i, h, e)) (λ h. absurd (omega arith))
