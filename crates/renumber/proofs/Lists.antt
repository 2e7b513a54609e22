-- The tests of the lists alone: what it takes that the old numbers rise, that the order has the pairs by rising new number
-- and that no new number stands twice, and that lists which pass are paired.
-- Assumes nothing.
use mathlib.Core.Bool.{Bool, true, false}
use mathlib.Core.List.{List, [], ◌∷◌}
use mathlib.Core.Logic.{◌⊎◌, inl, inr, ⊎_elim}
use mathlib.Core.Path.{◌≡◌, refl, sym, ap, ap₂, subst, ◌∙◌}
use Prim.Native.Nat.{ℕ, zero, suc, ◌-◌, ◌≤◌, ◌<◌}
use native.Mathlib.Decide.{ℕ_discrete}
use native.Mathlib.Omega.{arith}
use lib.Dec.{eqb, ltb}
use lib.ListN.{length, get_or}
use borrow.Author.Tests.{eq-eqb, ne_eqb, eqb-true, lt-ltb, ltb-true}
use Rattle.std.specs.Prelude.{Ok, Err}
use Rattle.lists.specs.Members.{Rising}
use Rattle.lists.specs.Pick.{pick, both, either}
use Rattle.lists.specs.Tests.{Test}
use Rattle.lists.proofs.Answers.{first-passed}
use Rattle.lists.proofs.Search.{first-before}
use Rattle.lists.proofs.Tests.{both_true, either_true, false-true}
use Rattle.contents.proofs.Answers as Answers
use Rattle.renumber.specs.declared.RenumberRefusal.{RenumberRefusal}
use Rattle.renumber.specs.declared.RenumberRefusal.TheVariants.{File, Lengths, Unrising, Disordered, Twice, Taken}
use Rattle.renumber.specs.InnerPairs.{Ordered, Paired}
use Rattle.renumber.specs.Pairs.{rises_at, unrising_at, is_behind, is_ordered_at, disordered_at, is_alone, twice_at, along}
use Rattle.renumber.specs.Renumber.{RenumberAnswer, refusal_number, number_of, list_answer}
use Rattle.renumber.proofs.Tested.{length-along, get_d_along, ordered_there}
use Rattle.renumber.proofs.Twins.{behind-is, falls_not, equal_rise, alone-not}

-- A list that rises at every place rises.
pub rises_all : (xs : List ℕ) → ((i : ℕ) → i < length xs → rises_at xs i ≡ true) → Rising xs
rises_all xs at i zero h m = absurd (omega arith)
rises_all xs at i (suc j) h m =
    let up : get_or xs (suc j - 1) 0 < get_or xs (suc j) 0 =
    ⊎_elim
    (λ z. absurd (omega (arith, eqb-true (suc j) 0 z)))
    (λ r. ltb-true _ _ r)
    (either_true (eqb (suc j) 0) (ltb (get_or xs (suc j - 1) 0) (get_or xs (suc j) 0)) (at (suc j) m)) in
    let before : suc j - 1 ≡ j = omega arith in
    let step : get_or xs j 0 < get_or xs (suc j) 0 = omega (arith, ap (λ k. get_or xs k 0) before) in
    elim (ℕ_discrete i j) [
      | yes e ↦ omega (arith, ap (λ k. get_or xs k 0) e)
      | no n ↦ let r : get_or xs i 0 < get_or xs j 0 = rises_all xs at i j (omega arith) (omega arith) in omega arith
    ]

pub rising_old : (old : List ℕ) → unrising_at old ≡ length old → Rising old
unfolding unrising_at
rising_old old none = rises_all old (λ i h. first-before (length old) (rises_at old) i (omega arith))

-- A pair comes behind another where its number is above or its place is.
pub is-behind : (new : List ℕ) (p q : ℕ) → (get_or new p 0 < get_or new q 0) ⊎ ((get_or new p 0 ≡ get_or new q 0) × (p < q)) → is_behind new p q ≡ true
is-behind new p q (inl a) = ap (λ b. either b (both (eqb (get_or new p 0) (get_or new q 0)) (ltb p q))) (lt-ltb _ _ a)
is-behind new p q (inr b) =
    ap (either (ltb (get_or new p 0) (get_or new q 0))) (ap₂ both (eq-eqb _ _ b.0) (lt-ltb _ _ b.1)) ∙ go (ltb (get_or new p 0) (get_or new q 0))
  where
    go : (b : Bool) → either b true ≡ true
    go true = refl
    go false = refl

behind_trans : (new : List ℕ) (p q r : ℕ) → is_behind new p q ≡ true → is_behind new q r ≡ true → is_behind new p r ≡ true
behind_trans new p q r a b =
    is-behind new p r
    (⊎_elim
    (λ x. ⊎_elim (λ y. inl (omega arith)) (λ y. inl (omega (arith, y.0))) (behind-is new q r b))
    (λ x. ⊎_elim (λ y. inl (omega (arith, x.0))) (λ y. inr (x.0 ∙ y.0, omega (arith, x.1, y.1))) (behind-is new q r b))
    (behind-is new p q a))

-- An order that is right at every place is right.
module _ (new order : List ℕ) (at : (i : ℕ) → i < length order → is_ordered_at new order i ≡ true) where
  next-behind : (j : ℕ) → suc j < length order → is_behind new (get_or order j 0) (get_or order (suc j) 0) ≡ true
  next-behind j h =
      let before : suc j - 1 ≡ j = omega arith in
      let tested = both_true (ltb (get_or order (suc j) 0) (length new)) (either (eqb (suc j) 0) (is_behind new (get_or order (suc j - 1) 0) (get_or order (suc j) 0))) (at (suc j) h) in
      ⊎_elim
      (λ z. absurd (omega (arith, eqb-true (suc j) 0 z)))
      (λ b. subst (λ k. is_behind new (get_or order k 0) (get_or order (suc j) 0) ≡ true) before b)
      (either_true (eqb (suc j) 0) (is_behind new (get_or order (suc j - 1) 0) (get_or order (suc j) 0)) tested.1)

  all_behind : (i j : ℕ) → i < j → j < length order → is_behind new (get_or order i 0) (get_or order j 0) ≡ true
  all_behind i zero h m = absurd (omega arith)
  all_behind i (suc j) h m =
      elim (ℕ_discrete i j) [
        | yes e ↦ subst (λ k. is_behind new (get_or order k 0) (get_or order (suc j) 0) ≡ true) (sym e) (next-behind j m)
        | no n ↦ behind_trans new (get_or order i 0) (get_or order j 0) (get_or order (suc j) 0) (all_behind i j (omega arith) (omega arith)) (next-behind j m)
      ]

  pub ordered_all : length order ≡ length new → Ordered new order
  ordered_all long = record { long = long; places = λ i h. ordered_there new order i (at i h); behind = all_behind }

pub ordered-order : (new order : List ℕ) → length order ≡ length new → disordered_at new order ≡ length order → Ordered new order
unfolding disordered_at
ordered-order new order long none =
    ordered_all new order (λ i h. first-before (length order) (is_ordered_at new order) i (omega arith)) long

-- Where no number stands twice they rise along the order.
pub rising-along : {new order : List ℕ} → Ordered new order → twice_at new ≡ length new → Rising (along order new)
unfolding twice_at
rising-along {new} {order} o none i j h m =
    let b : j < length order = omega (arith, length-along order new) in
    let p : ℕ = get_or order i 0 in
    let q : ℕ = get_or order j 0 in
    let up : get_or new p 0 ≤ get_or new q 0 = falls_not o i j (omega arith) b in
    let apart : get_or new p 0 ≡ get_or new q 0 → ⊥ =
    λ e. false-true
    (sym (alone-not new p q (o.places j b) (λ s. let r : p < q = equal_rise o i j h b e in omega arith) (sym e))
    ∙ first-before (length new) (is_alone new) p (omega (arith, o.places i (omega arith)))) in
    elim (ℕ_discrete (get_or new p 0) (get_or new q 0)) [
      | yes e ↦ absurd (apart e)
      | no n ↦ omega (arith, get_d_along order new i (omega arith), get_d_along order new j b)
    ]

-- ---- the answer

-- No refusal has number 0,
pub refusal_numbered : (r : RenumberRefusal) → refusal_number r ≡ 0 → ⊥
refusal_numbered (File r) e = Answers.refusal_numbered r e
refusal_numbered Lengths e = omega arith
refusal_numbered (Unrising p) e = omega arith
refusal_numbered (Disordered p) e = omega arith
refusal_numbered (Twice p) e = omega arith
refusal_numbered (Taken p) e = omega arith

-- so the answer with number 0 is that the call is done.
pub number-done : (a : RenumberAnswer) → number_of a ≡ 0 → a ≡ Ok tt
number-done (Ok _) e = refl
number-done (Err r) e = absurd (refusal_numbered r e)

other : (a : RenumberAnswer) → (number_of a ≡ 0 → ⊥) → a ≡ Ok tt → ⊥
other a n e = n (ap number_of e)

module _ (old new order : List ℕ) where
  -- The answer behind each test.
  abbrev behind-order : RenumberAnswer
  behind-order = pick (eqb (twice_at new) (length new)) (Ok tt) (Err (Twice (twice_at new)))

  abbrev behind_old : RenumberAnswer
  behind_old = pick (eqb (disordered_at new order) (length order)) behind-order (Err (Disordered (disordered_at new order)))

  abbrev behind-lengths : RenumberAnswer
  behind-lengths = pick (eqb (unrising_at old) (length old)) behind_old (Err (Unrising (unrising_at old)))

  -- 18: the lists are not of one length.
  pub lengths-new : (length new ≡ length old → ⊥) → Err Lengths ≡ list_answer old new order
  unfolding list_answer
  lengths-new n = sym (ap (λ b. pick (both b (eqb (length order) (length old))) behind-lengths (Err Lengths)) (ne_eqb _ _ n))

  module _ (new_long : length new ≡ length old) where
    pub lengths-order : (length order ≡ length old → ⊥) → Err Lengths ≡ list_answer old new order
    unfolding list_answer
    lengths-order n = sym (ap₂ (λ a b. pick (both a b) behind-lengths (Err Lengths)) (eq-eqb _ _ new_long) (ne_eqb _ _ n))

    module _ (order_long : length order ≡ length old) where
      lengths : list_answer old new order ≡ behind-lengths
      unfolding list_answer
      lengths = ap₂ (λ a b. pick (both a b) behind-lengths (Err Lengths)) (eq-eqb _ _ new_long) (eq-eqb _ _ order_long)

      -- 19: an old number is not above the one before it.
      pub old_unrising : (p : ℕ) → p ≡ unrising_at old → p < length old → Err (Unrising p) ≡ list_answer old new order
      old_unrising p found some =
          ap (λ p. Err (Unrising p)) found
          ∙ sym (lengths ∙ ap (λ b. pick b behind_old (Err (Unrising (unrising_at old)))) (ne_eqb (unrising_at old) (length old) (λ e. omega arith)))

      module _ (rises : unrising_at old ≡ length old) where
        rising-passed : list_answer old new order ≡ behind_old
        rising-passed = lengths ∙ ap (λ b. pick b behind_old (Err (Unrising (unrising_at old)))) (eq-eqb _ _ rises)

        -- 20: a place of the order is wrong.
        pub order-disordered : (p : ℕ) → p ≡ disordered_at new order → p < length order → Err (Disordered p) ≡ list_answer old new order
        order-disordered p found some =
            ap (λ p. Err (Disordered p)) found
            ∙ sym (rising-passed ∙ ap (λ b. pick b behind-order (Err (Disordered (disordered_at new order)))) (ne_eqb (disordered_at new order) (length order) (λ e. omega arith)))

        module _ (ordered : disordered_at new order ≡ length order) where
          order-passed : list_answer old new order ≡ behind-order
          order-passed = rising-passed ∙ ap (λ b. pick b behind-order (Err (Disordered (disordered_at new order)))) (eq-eqb _ _ ordered)

          -- 21: a new number stands twice.
          pub new-twice : (p : ℕ) → p ≡ twice_at new → p < length new → Err (Twice p) ≡ list_answer old new order
          new-twice p found some =
              ap (λ p. Err (Twice p)) found ∙ sym (order-passed ∙ ap (λ b. pick b (Ok tt) (Err (Twice (twice_at new)))) (ne_eqb (twice_at new) (length new) (λ e. omega arith)))

          -- 0: nothing of that.
          pub lists-done : twice_at new ≡ length new → Ok tt ≡ list_answer old new order
          lists-done once = sym (order-passed ∙ ap (λ b. pick b (Ok tt) (Err (Twice (twice_at new)))) (eq-eqb _ _ once))

  -- What holds of lists that pass.
  pub record ListsTaken : Type 0 where
    pub new_long : length new ≡ length old
    pub order_long : length order ≡ length old
    pub rises : unrising_at old ≡ length old
    pub ordered : disordered_at new order ≡ length order
    pub once : twice_at new ≡ length new

  pub lists-taken : list_answer old new order ≡ Ok tt → ListsTaken
  unfolding list_answer
  lists-taken e =
      let last : List (Test RenumberAnswer) = (eqb (twice_at new) (length new), Err (Twice (twice_at new))) ∷ [] in
      let later : List (Test RenumberAnswer) = (eqb (disordered_at new order) (length order), Err (Disordered (disordered_at new order))) ∷ last in
      let rest : List (Test RenumberAnswer) = (eqb (unrising_at old) (length old), Err (Unrising (unrising_at old))) ∷ later in
      let first = first-passed (Ok tt) (both (eqb (length new) (length old)) (eqb (length order) (length old)), Err Lengths) rest (other (Err Lengths) (λ z. omega arith)) e in
      let second = first-passed (Ok tt) (eqb (unrising_at old) (length old), Err (Unrising (unrising_at old))) later (other (Err (Unrising (unrising_at old))) (λ z. omega arith)) first.1 in
      let third = first-passed (Ok tt) (eqb (disordered_at new order) (length order), Err (Disordered (disordered_at new order))) last (other (Err (Disordered (disordered_at new order))) (λ z. omega arith)) second.1 in
      let fourth = first-passed (Ok tt) (eqb (twice_at new) (length new), Err (Twice (twice_at new))) [] (other (Err (Twice (twice_at new))) (λ z. omega arith)) third.1 in
      let long = both_true _ _ first.0 in
      record {
        new_long = eqb-true _ _ long.0;
        order_long = eqb-true _ _ long.1;
        rises = eqb-true _ _ second.0;
        ordered = eqb-true _ _ third.0;
        once = eqb-true _ _ fourth.0;
      }

  pub lists_paired : ListsTaken → Paired old new order
  lists_paired t =
      let o = ordered-order new order (t.order_long ∙ sym t.new_long) t.ordered in
      record {
        new_long = t.new_long;
        order_long = t.order_long;
        rising = rising_old old t.rises;
        places = o.places;
        along_rising = rising-along o t.once;
      }
