-- Each number exactly when the reason for it is there, both ways: the tests say what the reasons say, the reason gives the
-- answer, and there always is one.
-- Assumes nothing.
use mathlib.Core.Bool.{Bool, true, false}
use mathlib.Core.List.{List}
use mathlib.Core.Logic.{◌↔◌, inl, inr, ⊎_elim}
use mathlib.Core.Path.{◌≡◌, refl, sym, ap, ap₂, subst, ◌∙◌}
use Prim.Native.Nat.{ℕ, ◌-◌, ◌≤◌, ◌<◌}
use native.Mathlib.Decide.{dec_lt, dec_le, ℕ_discrete}
use native.Mathlib.Omega.{arith}
use lib.Dec.{eqb, ltb}
use lib.ListN.{length, get_or}
use borrow.Author.Tests.{eq-eqb, ne_eqb, eqb-true, eqb-false, ltb-true}
use Rattle.std.specs.Prelude.{Ok, Err}
use Rattle.lists.specs.Members.{Stands}
use Rattle.lists.specs.Pick.{either, fails}
use Rattle.lists.specs.Search.{first_bad}
use Rattle.lists.proofs.Search.{first_le, first-at, first-before, first_only}
use Rattle.lists.proofs.Tests.{either_true, false-true, not_then}
use Rattle.contents.specs.declared.FileRefusal.TheVariants.{Room}
use Rattle.contents.specs.Answers as Answers
use Rattle.contents.specs.Answers.{file_answer}
use Rattle.contents.proofs.Answers as Files
use Rattle.files.specs.Files.{row_at, row_count, file_tests}
use Rattle.files.specs.Reasons.{Reason}
use Rattle.files.proofs.Exactly.{reason_gives, file_exactly}
use Rattle.renumber.specs.declared.RenumberRefusal.TheVariants.{File, Lengths, Unrising, Disordered, Twice, Taken}
use Rattle.renumber.specs.Pairs.{is_in, is_free, rises_at, unrising_at, is_ordered_at, disordered_at, is_apart, is_alone, twice_at}
use Rattle.renumber.specs.Reasons.{OneLength, RisesAt, OrderedAt, Alone, Free, ListsRight, RenumberReason, of_file, other_lengths, unrising, disordered, twice, taken, short_output, room_there}
use Rattle.renumber.specs.Renumber.{RenumberAnswer, from_file, new_file, taken_at, list_answer, renumber_answer}
use Rattle.renumber.proofs.Calls.{file-stops, lists_stop, row-stops, room-stops, nothing_stops}
use Rattle.renumber.proofs.Lists.{is-behind, lengths-new, lengths-order, old_unrising, order-disordered, new-twice, lists-done}
use Rattle.renumber.proofs.Places.{in_stands, stands_in, stands-out}
use Rattle.renumber.proofs.Tested.{rises-first, rises_later, rises-not, ordered-first, ordered_later, ordered_there}
use Rattle.renumber.proofs.Twins.{behind-is, alone-not, alone-is}

-- ---- what each test says

module _ (xs : List ℕ) (i : ℕ) where
  pub rises-tested : RisesAt xs i → rises_at xs i ≡ true
  rises-tested r =
      elim (ℕ_discrete i 0) [
        | yes z ↦ rises-first xs i z
        | no n ↦ rises_later xs i (r (omega arith))
      ]

  pub tested-rises : rises_at xs i ≡ true → RisesAt xs i
  tested-rises e some =
      ⊎_elim (λ z. absurd (omega (arith, eqb-true i 0 z))) (λ r. ltb-true _ _ r) (either_true (eqb i 0) (ltb (get_or xs (i - 1) 0) (get_or xs i 0)) e)

  pub tested_falls : rises_at xs i ≡ false → (0 < i) × (get_or xs i 0 ≤ get_or xs (i - 1) 0)
  tested_falls e = (
    elim (ℕ_discrete i 0) [
      | yes z ↦ absurd (false-true (sym e ∙ rises-first xs i z))
      | no n ↦ omega arith
    ],
    elim (dec_le (get_or xs i 0) (get_or xs (i - 1) 0)) [
      | yes h ↦ h
      | no h ↦ absurd (false-true (sym e ∙ rises_later xs i (omega arith)))
    ],
  )

module _ (new order : List ℕ) (i : ℕ) where
  pub ordered-tested : OrderedAt new order i → is_ordered_at new order i ≡ true
  ordered-tested o =
      elim (ℕ_discrete i 0) [
        | yes z ↦ sym (ordered-first new order i o.0 z)
        | no n ↦ sym (ordered_later new order i o.0 n) ∙ is-behind new (get_or order (i - 1) 0) (get_or order i 0) (o.1 (omega arith))
      ]

  pub tested-ordered : is_ordered_at new order i ≡ true → OrderedAt new order i
  tested-ordered e = (
    ordered_there new order i e,
    (λ some. behind-is new (get_or order (i - 1) 0) (get_or order i 0)
        (ordered_later new order i (ordered_there new order i e) (λ z. omega arith) ∙ e)),
  )

  pub tested-disordered : is_ordered_at new order i ≡ false → OrderedAt new order i → ⊥
  tested-disordered e o = false-true (sym e ∙ ordered-tested o)

module _ (xs : List ℕ) (p : ℕ) where
  pub tested-alone : is_alone xs p ≡ true → Alone xs p
  tested-alone e q h other same = false-true (sym (alone-not xs p q h other same) ∙ e)

  -- The other place is found.
  pub tested-twice : is_alone xs p ≡ false → (q : ℕ) × (q < length xs) × (q ≡ p → ⊥) × (get_or xs q 0 ≡ get_or xs p 0)
  tested-twice e =
      let q : ℕ = first_bad (length xs) (is_apart xs p) in
      let within : q ≤ length xs = first_le (length xs) (is_apart xs p) in
      let some : q ≡ length xs → ⊥ = eqb-false q (length xs) e in
      let h : q < length xs = elim (dec_lt q (length xs)) [ yes m ↦ m | no m ↦ absurd (some (omega arith)) ] in
      let at : is_apart xs p q ≡ false = first-at (length xs) (is_apart xs p) h in (
        q,
        h,
        (λ z. false-true (sym at ∙ ap (λ b. either b (fails (eqb (get_or xs q 0) (get_or xs p 0)))) (eq-eqb q p z))),
        elim (ℕ_discrete (get_or xs q 0) (get_or xs p 0)) [
          | yes s ↦ s
          | no n ↦ absurd (false-true (sym at ∙ ap (λ b. either (eqb q p) (fails b)) (ne_eqb _ _ n) ∙ last (eqb q p)))
        ],
      )
    where
      last : (b : Bool) → either b true ≡ true
      last true = refl
      last false = refl

module _ (old new : List ℕ) (x : ℕ) where
  pub free-tested : Free old new x → is_free old new x ≡ true
  free-tested (inl s) = ap (λ b. either b (fails (is_in new x))) (stands_in old x s)
  free-tested (inr n) = ap (λ b. either (is_in old x) (fails b)) (stands-out new x n) ∙ last (is_in old x)
    where
      last : (b : Bool) → either b true ≡ true
      last true = refl
      last false = refl

  pub tested-free : is_free old new x ≡ true → Free old new x
  tested-free e = ⊎_elim (λ a. inl (in_stands old x a)) (λ b. inr (λ s. false-true (sym (ap fails (stands_in new x s)) ∙ b))) (either_true (is_in old x) (fails (is_in new x)) e)

  pub taken-tested : (Stands x old → ⊥) → Stands x new → is_free old new x ≡ false
  taken-tested n s = ap₂ (λ a b. either a (fails b)) (stands-out old x n) (stands_in new x s)

  pub tested-taken : is_free old new x ≡ false → (Stands x old → ⊥) × Stands x new
  tested-taken e = (
    (λ s. false-true (sym e ∙ ap (λ b. either b (fails (is_in new x))) (stands_in old x s))),
    go (is_in new x) refl,
  )
    where
      last : (b : Bool) → either b true ≡ true
      last true = refl
      last false = refl

      go : (b : Bool) → is_in new x ≡ b → Stands x new
      go true is = in_stands new x is
      go false is = absurd (false-true (sym e ∙ ap (λ b. either (is_in old x) (fails b)) is ∙ last (is_in old x)))

-- ---- the lowest place that fails, and that there is none

module _ (n : ℕ) (test : ℕ → Bool) where
  pub none-fails : ((i : ℕ) → i < n → test i ≡ true) → first_bad n test ≡ n
  none-fails all = sym (first_only n n test (omega arith) all (λ h. absurd (omega arith)))

module _ (l old new order output : List ℕ) where
  rise_there : ((i : ℕ) → i < length old → RisesAt old i) → unrising_at old ≡ length old
  unfolding unrising_at
  rise_there all = none-fails (length old) (rises_at old) (λ i h. rises-tested old i (all i h))

  order_there : ((i : ℕ) → i < length order → OrderedAt new order i) → disordered_at new order ≡ length order
  unfolding disordered_at
  order_there all = none-fails (length order) (is_ordered_at new order) (λ i h. ordered-tested new order i (all i h))

  alone_there : ((i : ℕ) → i < length new → Alone new i) → twice_at new ≡ length new
  unfolding twice_at
  alone_there all = none-fails (length new) (is_alone new) (λ i h. alone-is new i (all i h))

  free_there : ((i : ℕ) → i < row_count l → Free old new (row_at l i)) → taken_at old new l ≡ row_count l
  unfolding taken_at
  free_there all = none-fails (row_count l) (λ p. is_free old new (row_at l p)) (λ i h. free-tested old new (row_at l i) (all i h))

  pub lists-right : ListsRight old new order → list_answer old new order ≡ Ok tt
  lists-right r =
      sym (lists-done old new order r.lengths.0 r.lengths.1 (rise_there r.rises) (order_there r.ordered) (alone_there r.alone))

  -- The reason gives the answer,
  gives : {a : RenumberAnswer} → RenumberReason l old new order output a → renumber_answer l old new order output ≡ a
  unfolding unrising_at disordered_at twice_at taken_at
  gives (of_file a other r) = file-stops l old new order output a (sym (reason_gives l r)) (λ z. other (Files.number-done a z))
  gives (other_lengths r n) =
      lists_stop l old new order output (reason_gives l r) (Err Lengths)
      (elim (ℕ_discrete (length new) (length old)) [
        | yes e ↦ lengths-order old new order e (λ o. n (e, o))
        | no m ↦ lengths-new old new order m
      ])
      (λ z. omega arith)
  gives (unrising p r o h some low before) =
      lists_stop l old new order output (reason_gives l r) (Err (Unrising p))
      (old_unrising old new order o.0 o.1 p
      (first_only (length old) p (rises_at old) (omega arith) (λ i b. rises-tested old i (before i b)) (λ _. rises-not old p some low))
      h)
      (λ z. omega arith)
  gives (disordered p r o all h bad before) =
      lists_stop l old new order output (reason_gives l r) (Err (Disordered p))
      (order-disordered old new order o.0 o.1 (rise_there all) p
      (first_only (length order) p (is_ordered_at new order) (omega arith) (λ i b. ordered-tested new order i (before i b))
      (λ _. not_then (is_ordered_at new order p) (λ e. bad (tested-ordered new order p e))))
      h)
      (λ z. omega arith)
  gives (twice p q r o all ord h m other same before) =
      lists_stop l old new order output (reason_gives l r) (Err (Twice p))
      (new-twice old new order o.0 o.1 (rise_there all) (order_there ord) p
      (first_only (length new) p (is_alone new) (omega arith) (λ i b. alone-is new i (before i b)) (λ _. alone-not new p q m other same))
      h)
      (λ z. omega arith)
  gives (taken p r lists h n s before) =
      row-stops l old new order output (reason_gives l r) (lists-right lists) p
      (first_only (row_count l) p (λ p. is_free old new (row_at l p)) (omega arith) (λ i b. free-tested old new (row_at l i) (before i b))
      (λ _. taken-tested old new (row_at l p) n s))
      h
  gives (short_output r lists free short) = room-stops l old new order output (reason_gives l r) (lists-right lists) (free_there free) short
  gives (room_there r lists free room) = nothing_stops l old new order output (reason_gives l r) (lists-right lists) (free_there free) room

  -- and there always is one.
  Answered : Type 0
  Answered = (a : RenumberAnswer) × RenumberReason l old new order output a

  by_room : Reason l (Ok tt) → ListsRight old new order → ((i : ℕ) → i < row_count l → Free old new (row_at l i)) → Answered
  unfolding Answered
  by_room r lists free =
      elim (dec_le (length (new_file old new l)) (length output)) [
        | yes room ↦ (Ok tt, room_there r lists free room)
        | no short ↦ (Err (File Room), short_output r lists free (omega arith))
      ]

  by_rows : Reason l (Ok tt) → ListsRight old new order → Answered
  unfolding Answered
  by_rows r lists =
      let test : ℕ → Bool = λ p. is_free old new (row_at l p) in
      let p : ℕ = first_bad (row_count l) test in
      elim (dec_lt p (row_count l)) [
        | yes h ↦
            let at = tested-taken old new (row_at l p) (first-at (row_count l) test h) in
            (Err (Taken p), taken p r lists h at.0 at.1 (λ i b. tested-free old new (row_at l i) (first-before (row_count l) test i b)))
        | no h ↦ by_room r lists (λ i b. tested-free old new (row_at l i) (first-before (row_count l) test i (omega arith)))
      ]

  by_new : Reason l (Ok tt) → OneLength old new order → ((i : ℕ) → i < length old → RisesAt old i)
      → ((i : ℕ) → i < length order → OrderedAt new order i) → Answered
  unfolding Answered
  by_new r o all ord =
      let p : ℕ = first_bad (length new) (is_alone new) in
      elim (dec_lt p (length new)) [
        | yes h ↦
            let two = tested-twice new p (first-at (length new) (is_alone new) h) in
            (Err (Twice p), twice p two.0 r o all ord h two.1 two.2 two.3 (λ i b. tested-alone new i (first-before (length new) (is_alone new) i b)))
        | no h ↦ by_rows r
            (record { lengths = o; rises = all; ordered = ord; alone = λ i b. tested-alone new i (first-before (length new) (is_alone new) i (omega arith)) })
      ]

  by_order : Reason l (Ok tt) → OneLength old new order → ((i : ℕ) → i < length old → RisesAt old i) → Answered
  unfolding Answered
  by_order r o all =
      let p : ℕ = first_bad (length order) (is_ordered_at new order) in
      let right : (i : ℕ) → i < p → OrderedAt new order i = λ i b. tested-ordered new order i (first-before (length order) (is_ordered_at new order) i b) in
      elim (dec_lt p (length order)) [
        | yes h ↦ (Err (Disordered p), disordered p r o all h (tested-disordered new order p (first-at (length order) (is_ordered_at new order) h)) right)
        | no h ↦ by_new r o all (λ i b. right i (omega arith))
      ]

  by_old : Reason l (Ok tt) → OneLength old new order → Answered
  unfolding Answered
  by_old r o =
      let p : ℕ = first_bad (length old) (rises_at old) in
      let right : (i : ℕ) → i < p → RisesAt old i = λ i b. tested-rises old i (first-before (length old) (rises_at old) i b) in
      elim (dec_lt p (length old)) [
        | yes h ↦
            let at = tested_falls old p (first-at (length old) (rises_at old) h) in
            (Err (Unrising p), unrising p r o h at.0 at.1 right)
        | no h ↦ by_order r o (λ i b. right i (omega arith))
      ]

  by_lengths : Reason l (Ok tt) → Answered
  unfolding Answered
  by_lengths r =
      elim (ℕ_discrete (length new) (length old)) [
        | no n ↦ (Err Lengths, other_lengths r (λ o. n o.0))
        | yes e ↦
            elim (ℕ_discrete (length order) (length old)) [
              | no n ↦ (Err Lengths, other_lengths r (λ o. n o.1))
              | yes m ↦ by_old r (e, m)
            ]
      ]

  reason : Answered
  unfolding Answered
  reason =
      elim (ℕ_discrete (Answers.number_of (file_answer (file_tests l))) 0) [
        | no bad ↦ (
          from_file (file_answer (file_tests l)),
          of_file (file_answer (file_tests l)) (λ e. bad (ap Answers.number_of e)) ((file_exactly l (file_answer (file_tests l))).0 refl),
        )
        | yes z ↦ by_lengths ((file_exactly l (Ok tt)).0 (Files.number-done (file_answer (file_tests l)) z))
      ]

  -- Each answer is given exactly when there is the reason for it.
  pub renumber_exactly : (a : RenumberAnswer) → (renumber_answer l old new order output ≡ a) ↔ RenumberReason l old new order output a
  unfolding Answered
  renumber_exactly a = ((λ e. subst (RenumberReason l old new order output) (sym (gives reason.1) ∙ e) reason.1), gives)
