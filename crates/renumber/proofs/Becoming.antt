-- What a number becomes, by its place among the old numbers and by whether it is new; and that a list without a number
-- between two bounds has none of the numbers between them.
-- Assumes nothing.
use mathlib.Core.Bool.{Bool, true, false}
use mathlib.Core.List.{List}
use mathlib.Core.Path.{◌≡◌, refl, sym, ap, ◌∙◌}
use Prim.Native.Nat.{ℕ, ◌≤◌, ◌<◌}
use native.Mathlib.Decide.{dec_lt, ℕ_discrete}
use native.Mathlib.Omega.{arith}
use lib.Dec.{eqb, leb, ltb}
use lib.ListN.{length, get_or}
use borrow.Author.Tests.{eq-eqb, ne_eqb, lt-ltb, le-ltb, le-leb}
use Rattle.lists.specs.Members.{Stands, Rising}
use Rattle.lists.specs.Pick.{pick, either, fails}
use Rattle.lists.specs.Search.{first_beyond}
use Rattle.lists.proofs.Search.{first-beyond-before}
use Rattle.lists.proofs.Tests.{false-true}
use Rattle.renumber.specs.InnerPairs.{Within, meets_in}
use Rattle.renumber.specs.Pairs.{place_in, is_in, renumbered, is_free, along}
use Rattle.renumber.proofs.Orders.{Different, nowhere}
use Rattle.renumber.proofs.Places.{place_is, place-before, stands_in, stands-out, stands-not}
use Rattle.renumber.proofs.Tested.{length-along, get_d_along}

module _ (old new : List ℕ) (x : ℕ) where
  module _ (p : ℕ) (found : p ≡ place_in old x) where
    -- A number that is listed becomes its new number,
    pub becomes_new : p < length old → get_or new p 0 ≡ renumbered old new x
    unfolding renumbered
    becomes_new h =
        ap (λ k. get_or new k 0) found
        ∙ sym (ap (λ b. pick b (get_or new (place_in old x) 0) x) (lt-ltb (place_in old x) (length old) (omega arith)))

    -- and another one stays.
    pub stays : length old ≤ p → x ≡ renumbered old new x
    unfolding renumbered
    stays h = sym (ap (λ b. pick b (get_or new (place_in old x) 0) x) (le-ltb (place_in old x) (length old) (omega arith)))

  -- A new number is free where it is listed,
  pub free_new : is_in new x ≡ true → ltb (place_in old x) (length old) ≡ is_free old new x
  free_new e = go (is_in old x) ∙ sym (ap (λ b. either (is_in old x) (fails b)) e)
    where
      go : (b : Bool) → b ≡ either b false
      go true = refl
      go false = refl

  -- and one that is not new is free.
  pub free_other : is_in new x ≡ false → true ≡ is_free old new x
  free_other e = go (is_in old x) ∙ sym (ap (λ b. either (is_in old x) (fails b)) e)
    where
      go : (b : Bool) → true ≡ either b true
      go true = refl
      go false = refl

module _ (xs : List ℕ) (low high : ℕ) where
  module _ (p : ℕ) (found : p ≡ first_beyond low xs) where
    pub meets_some : p < length xs → leb (get_or xs p 0) high ≡ meets_in xs low high
    unfolding meets_in
    meets_some h =
        ap (λ k. leb (get_or xs k 0) high) found
        ∙ sym (ap (λ b. pick b (leb (get_or xs (first_beyond low xs) 0) high) false) (lt-ltb (first_beyond low xs) (length xs) (omega arith)))

    pub meets-none : length xs ≤ p → false ≡ meets_in xs low high
    unfolding meets_in
    meets-none h = sym (ap (λ b. pick b (leb (get_or xs (first_beyond low xs) 0) high) false) (le-ltb (first_beyond low xs) (length xs) (omega arith)))

  -- A rising list that does not meet the bounds has no number between them.
  pub meets-not : Rising xs → meets_in xs low high ≡ false → (x : ℕ) → low ≤ x → x ≤ high → is_in xs x ≡ false
  meets-not rising e x least most = stands-out xs x none
    where
      none : Stands x xs → ⊥
      none s =
          let p : ℕ = first_beyond low xs in
          let before : p ≤ s.0 =
          elim (dec_lt s.0 p) [
            | yes h ↦ absurd (omega (arith, first-beyond-before low xs s.0 h, s.2))
            | no h ↦ omega arith
          ] in
          let lower : get_or xs p 0 ≤ x =
          elim (ℕ_discrete p s.0) [
            | yes same ↦ omega (arith, ap (λ k. get_or xs k 0) same, s.2)
            | no n ↦ omega (arith, rising p s.0 (omega arith) s.1, s.2)
          ] in
          false-true (sym e ∙ sym (meets_some p refl (omega (arith, s.1))) ∙ le-leb (get_or xs p 0) high (omega arith))

-- Along an order in which the new numbers rise stands every new number, and no other.
module _ (new order : List ℕ) (long : length order ≡ length new) (places : Within (length new) order) (rising : Rising (along order new)) where
  pub order_different : Different order
  order_different i j h m e =
      let r = rising i j h (omega (arith, length-along order new)) in
      omega (arith, get_d_along order new i (omega arith), get_d_along order new j m, ap (λ p. get_or new p 0) e)

  pub order-place : (q : ℕ) → q < length new → place_in order q < length order
  order-place q h =
      elim (dec_lt (place_in order q) (length order)) [
        | yes m ↦ m
        | no m ↦ absurd
            (nowhere order (λ i b. omega (arith, places i b)) order_different q (omega arith)
            (λ i b e. place-before order q i (omega arith) e))
      ]

  pub along-stands : (x : ℕ) → Stands x (along order new) → Stands x new
  along-stands x s =
      let h : s.0 < length order = omega (arith, s.1, length-along order new) in
      (get_or order s.0 0, places s.0 h, sym (get_d_along order new s.0 h) ∙ s.2)

  pub stands-along : (x : ℕ) → Stands x new → Stands x (along order new)
  stands-along x s =
      let h = order-place s.0 s.1 in
      let p : ℕ = place_in order s.0 in (
        p,
        omega (arith, h, length-along order new),
        get_d_along order new p h ∙ ap (λ q. get_or new q 0) (place_is order s.0 h) ∙ s.2,
      )

  pub new-along : (x : ℕ) → is_in new x ≡ is_in (along order new) x
  new-along x =
      elim (dec_lt (place_in new x) (length new)) [
        | yes h ↦ lt-ltb _ _ h ∙ sym (stands_in (along order new) x (stands-along x (place_in new x, h, place_is new x h)))
        | no h ↦ le-ltb (place_in new x) (length new) (omega arith)
            ∙ sym (stands-out (along order new) x (λ s. place-before new x (along-stands x s).0 (omega (arith, (along-stands x s).1)) (along-stands x s).2))
      ]

  module _ (x p : ℕ) (found : p ≡ first_beyond x (along order new)) where
    pub new-found : p < length order → eqb (get_or new (get_or order p 0) 0) x ≡ is_in new x
    new-found h =
        elim (ℕ_discrete (get_or new (get_or order p 0) 0) x) [
          | yes e ↦ eq-eqb _ _ e ∙ sym (stands_in new x (get_or order p 0, places p h, e))
          | no n ↦ ne_eqb _ _ n
              ∙ sym (stands-out new x (λ s. stands-not (along order new) x rising p found (λ _ e. n (sym (get_d_along order new p h) ∙ e)) (stands-along x s)))
        ]

    pub new_none : length order ≤ p → false ≡ is_in new x
    new_none h =
        sym (stands-out new x (λ s. stands-not (along order new) x rising p found (λ m _. omega (arith, length-along order new)) (stands-along x s)))
