-- The lowest place whose number stands twice. Along an order equal numbers stand side by side, and of two neighbours that
-- are equal the first has the lower place; so the lowest of these is the lowest place of all.
-- Assumes nothing.
use mathlib.Core.Bool.{true, false}
use mathlib.Core.List.{List}
use mathlib.Core.Logic.{◌⊎◌, inl, inr, ⊎_elim}
use mathlib.Core.Path.{◌≡◌, refl, sym, ap, ap₂, subst, ◌∙◌}
use Prim.Native.Nat.{ℕ, ◌+◌, ◌-◌, ◌≤◌, ◌<◌, min}
use native.Mathlib.Decide.{dec_lt, ℕ_discrete}
use native.Mathlib.Omega.{arith}
use lib.Dec.{eqb}
use lib.ListN.{length, get_or}
use borrow.Author.Tests.{eq-eqb, ne_eqb, eqb-true, ltb-true}
use Rattle.lists.specs.Pick.{either, fails}
use Rattle.lists.specs.Search.{first_bad}
use Rattle.lists.proofs.Search.{first-before, first_only}
use Rattle.lists.proofs.Tests.{both_true, either_true, false-true}
use Rattle.renumber.specs.InnerPairs.{Ordered}
use Rattle.renumber.specs.Pairs.{is_behind, is_apart, is_alone, twice_at, place_in}
use Rattle.renumber.proofs.Orders.{Different, nowhere}
use Rattle.renumber.proofs.Places.{place_is, place-before}

-- What it is that a pair comes behind another.
pub behind-is : (new : List ℕ) (p q : ℕ) → is_behind new p q ≡ true → (get_or new p 0 < get_or new q 0) ⊎ ((get_or new p 0 ≡ get_or new q 0) × (p < q))
behind-is new p q e =
    ⊎_elim
    (λ a. inl (ltb-true _ _ a))
    (λ b. let two = both_true _ _ b in inr (eqb-true _ _ two.0, ltb-true _ _ two.1))
    (either_true _ _ e)

module _ {new order : List ℕ} (o : Ordered new order) where
  abbrev at : ℕ → ℕ
  at i = get_or new (get_or order i 0) 0

  -- Along the order numbers do not fall,
  pub falls_not : (i j : ℕ) → i ≤ j → j < length order → at i ≤ at j
  falls_not i j h m =
      elim (ℕ_discrete i j) [
        | yes e ↦ omega (arith, ap at e)
        | no n ↦ ⊎_elim (λ a. omega (arith, a)) (λ b. omega (arith, b.0)) (behind-is new (get_or order i 0) (get_or order j 0) (o.behind i j (omega arith) m))
      ]

  -- of equal ones the places rise,
  pub equal_rise : (i j : ℕ) → i < j → j < length order → at i ≡ at j → get_or order i 0 < get_or order j 0
  equal_rise i j h m e =
      ⊎_elim (λ a. absurd (omega (arith, a))) (λ b. b.1) (behind-is new (get_or order i 0) (get_or order j 0) (o.behind i j h m))

  -- so no place is there twice,
  pub all_different : Different order
  all_different i j h m e = let r = equal_rise i j h m (ap (λ p. get_or new p 0) e) in omega arith

  -- and every place is there.
  pub place_there : (q : ℕ) → q < length new → place_in order q < length order
  place_there q h =
      elim (dec_lt (place_in order q) (length order)) [
        | yes m ↦ m
        | no m ↦ absurd
            (nowhere order (λ i b. omega (arith, o.places i b, o.long)) all_different q (omega (arith, o.long))
            (λ i b e. place-before order q i (omega arith) e))
      ]

-- What the walk over neighbours has found: a place that is at most that of every pair of equal neighbours passed, and that
-- is the length or the place of such a pair.
pub record Twins (new order : List ℕ) (low i : ℕ) : Type 0 where
  pub begun : 0 < i
  pub least : (k : ℕ) → 0 < k → k < i → get_or new (get_or order (k - 1) 0) 0 ≡ get_or new (get_or order k 0) 0 → low ≤ get_or order (k - 1) 0
  pub found : (low ≡ length new)
      ⊎ ((k : ℕ) × (0 < k) × (k < length order) × (get_or new (get_or order (k - 1) 0) 0 ≡ get_or new (get_or order k 0) 0) × (low ≡ get_or order (k - 1) 0))

pub twins_none : (new order : List ℕ) → Twins new order (length new) 1
twins_none new order = record { begun = omega arith; least = λ k h m e. absurd (omega arith); found = inl refl }

module _ {new order : List ℕ} {low i : ℕ} (so : Twins new order low i) (there : i < length order) where
  -- Neighbours that differ change nothing.
  pub twins_other : (get_or new (get_or order (i - 1) 0) 0 ≡ get_or new (get_or order i 0) 0 → ⊥) → Twins new order low (i + 1)
  twins_other n = record {
    begun = omega arith;
    least = λ k h m e.
        elim (ℕ_discrete k i) [
          | yes s ↦ absurd (n (subst (λ k. get_or new (get_or order (k - 1) 0) 0 ≡ get_or new (get_or order k 0) 0) s e))
          | no d ↦ so.least k h (omega arith) e
        ];
    found = so.found;
  }

  -- Of equal ones the place of the first is taken where it is lower.
  pub twins_equal : (next : ℕ) → next ≡ min low (get_or order (i - 1) 0) → get_or new (get_or order (i - 1) 0) 0 ≡ get_or new (get_or order i 0) 0 → Twins new order next (i + 1)
  twins_equal next is equal = record {
    begun = omega arith;
    least = λ k h m e.
        elim (ℕ_discrete k i) [
          | yes s ↦ omega (arith, ap (λ k. get_or order (k - 1) 0) s)
          | no d ↦ omega (arith, so.least k h (omega arith) e)
        ];
    found =
        elim (dec_lt (get_or order (i - 1) 0) low) [
          | yes h ↦ inr (i, so.begun, there, equal, omega arith)
          | no h ↦
              ⊎_elim (λ a. inl (omega (arith, a))) (λ b. inr (b.0, b.1, b.2, b.3, omega (arith, b.4))) so.found
        ];
  }

module _ (xs : List ℕ) (p : ℕ) where
  -- A number that stands at another place too is not alone,
  pub alone-not : (q : ℕ) → q < length xs → (q ≡ p → ⊥) → get_or xs q 0 ≡ get_or xs p 0 → is_alone xs p ≡ false
  alone-not q h other e =
      ne_eqb (first_bad (length xs) (is_apart xs p)) (length xs) (λ all. false-true
      (sym (ap₂ (λ a b. either a (fails b)) (ne_eqb q p other) (eq-eqb _ _ e)) ∙ first-before (length xs) (is_apart xs p) q (omega arith)))

  -- and one that does not is.
  pub alone-is : ((q : ℕ) → q < length xs → (q ≡ p → ⊥) → get_or xs q 0 ≡ get_or xs p 0 → ⊥) → is_alone xs p ≡ true
  alone-is none =
      eq-eqb _ _ (sym (first_only (length xs) (length xs) (is_apart xs p) (omega arith) apart (λ h. absurd (omega arith))))
    where
      apart : (q : ℕ) → q < length xs → is_apart xs p q ≡ true
      apart q h =
          elim (ℕ_discrete q p) [
            | yes e ↦ ap (λ b. either b (fails (eqb (get_or xs q 0) (get_or xs p 0)))) (eq-eqb q p e)
            | no n ↦ ap₂ (λ a b. either a (fails b)) (ne_eqb q p n) (ne_eqb _ _ (none q h n))
          ]

-- After the last place this is the lowest place whose number stands twice.
pub twins_all : {new order : List ℕ} {low i : ℕ} → Ordered new order → Twins new order low i → length order ≤ i → low ≡ twice_at new
unfolding twice_at
twins_all {new} {order} {low} {i} o so all = first_only (length new) low (is_alone new) within before at_low
  where
    at : ℕ → ℕ
    at k = get_or new (get_or order k 0) 0

    within : low ≤ length new
    within = ⊎_elim (λ a. omega (arith, a)) (λ b. omega (arith, b.4, o.places (b.0 - 1) (omega (arith, b.2)))) so.found

    -- of two equal numbers the first along the order has an equal neighbour
    beside : (a b : ℕ) → a < b → b < length order → get_or new (get_or order a 0) 0 ≡ get_or new (get_or order b 0) 0 → low ≤ get_or order a 0
    beside a b h m e =
        let up = falls_not o a (a + 1) (omega arith) (omega arith) in
        let down = falls_not o (a + 1) b (omega arith) m in
        let back : a + 1 - 1 ≡ a = omega arith in
        let near : get_or new (get_or order (a + 1 - 1) 0) 0 ≡ get_or new (get_or order (a + 1) 0) 0 = omega (arith, ap (λ k. get_or new (get_or order k 0) 0) back) in
        omega (arith, so.least (a + 1) (omega arith) (omega arith) near, ap (λ k. get_or order k 0) back)

    before : (p : ℕ) → p < low → is_alone new p ≡ true
    before p h =
        alone-is new p
        (λ q m other e.
        let a : ℕ = place_in order p in
        let b : ℕ = place_in order q in
        let ha : a < length order = place_there o p (omega (arith, within)) in
        let hb : b < length order = place_there o q m in
        let pa : get_or order a 0 ≡ p = place_is order p ha in
        let pb : get_or order b 0 ≡ q = place_is order q hb in
        let same : get_or new (get_or order a 0) 0 ≡ get_or new (get_or order b 0) 0 = ap (λ k. get_or new k 0) pa ∙ sym e ∙ ap (λ k. get_or new k 0) (sym pb) in
        elim (dec_lt a b) [
          | yes l ↦ omega (arith, beside a b l hb same)
          | no l ↦
              elim (ℕ_discrete a b) [
                | yes s ↦ other (sym pb ∙ ap (λ k. get_or order k 0) (sym s) ∙ pa)
                | no d ↦ omega (arith, beside b a (omega arith) ha (sym same), equal_rise o b a (omega arith) ha (sym same))
              ]
        ])

    at_low : low < length new → is_alone new low ≡ false
    at_low h =
        ⊎_elim
        (λ a. absurd (omega (arith, a)))
        (λ b.
        let k : ℕ = b.0 in
        let rise = equal_rise o (k - 1) k (omega (arith, b.1)) b.2 b.3 in
        alone-not new low (get_or order k 0) (o.places k b.2) (λ e. omega (arith, b.4))
        (sym b.3 ∙ ap (λ p. get_or new p 0) (sym b.4)))
        so.found
