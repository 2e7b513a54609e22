-- What the loops over two blocks keep: one that joins all the differences, and one that writes the places at which the
-- blocks differ; and what the comparison gives and leaves.
-- Assumes nothing.
use mathlib.Core.Bool.{Bool, true, false}
use mathlib.Core.List.{List, [], ◌∷◌, append-nil}
use mathlib.Core.Path.{◌≡◌, refl, sym, ap, ap₂, ◌∙◌}
use Prim.Native.Nat.{ℕ, ◌+◌, ◌≤◌, ◌<◌}
use native.Mathlib.Decide.{dec_le, ℕ_discrete}
use native.Mathlib.Nat.{zero-add}
use native.Mathlib.Omega.{arith}
use lib.Bits.{bit_or, bit_xor, or_add_and, and_le_l, and_le_r, xor_add_and, xor_self, or_zero_l}
use lib.Dec.{eqb}
use lib.ListN.{length, get_or, set, length-append}
use borrow.Author.Tests.{eq-eqb, ne_eqb, eqb-true}
use Rattle.std.specs.Prelude.{Result, Ok, Err}
use Rattle.lists.specs.Tab.{over}
use Rattle.lists.specs.Passing.{passing, failing_from}
use Rattle.lists.proofs.Overs.{set-over, length_over, over_nothing, over_append}
use Rattle.lists.proofs.Failing.{failing_passed, failing_failed, failing_few, failing_none, failing_all}
use Rattle.contents.specs.declared.FileRefusal.{FileRefusal}
use Rattle.contents.specs.Answers.{FileAnswer, file_answer, left as leaves, giving}
use Rattle.contents.proofs.Accepted.{done_first}
use Rattle.contents.proofs.Answers.{left-err}
use Rattle.compare.specs.Changes.{is_same_at, differing, differing_tests, compared_of, differing_leaves}
use Rattle.compare.specs.InnerSame.{same_of}

-- ---- the joined differences

-- Two numbers have no bit apart exactly when they are equal.
xor_none : (a b : ℕ) → bit_xor a b ≡ 0 → a ≡ b
xor_none a b e = omega (arith, xor_add_and a b, and_le_l a b, and_le_r a b)

-- What is joined is 0 exactly when both parts are.
or_none : (a b : ℕ) → bit_or a b ≡ 0 → (a ≡ 0) × (b ≡ 0)
or_none a b e = (omega (arith, or_add_and a b, and_le_r a b), omega (arith, or_add_and a b, and_le_l a b))

-- The places below i are the same in both blocks exactly when nothing is joined yet.
pub record Alike (left right : List ℕ) (any i : ℕ) : Type 0 where
  pub within : i ≤ 1024
  pub none : any ≡ 0 → (k : ℕ) → k < i → is_same_at left right k ≡ true
  pub all : ((k : ℕ) → k < i → is_same_at left right k ≡ true) → any ≡ 0

pub alike-none : (left right : List ℕ) → Alike left right 0 0
alike-none left right = record { within = omega arith; none = λ _ k h. absurd (omega arith); all = λ _. refl }

pub alike_next : {left right : List ℕ} {any i : ℕ} (next : ℕ) → Alike left right any i → i < 1024
    → next ≡ bit_or any (bit_xor (get_or left i 0) (get_or right i 0)) → Alike left right next (i + 1)
alike_next {left} {right} {any} {i} next a h e = record {
  within = omega arith;
  none = λ z k b.
      let parts = or_none any (bit_xor (get_or left i 0) (get_or right i 0)) (sym e ∙ z) in
      elim (dec_le i k) [
        | yes last ↦ let q : k ≡ i = omega arith in ap (is_same_at left right) q ∙ eq-eqb (get_or left i 0) (get_or right i 0) (xor_none _ _ parts.1)
        | no first ↦ a.none parts.0 k (omega arith)
      ];
  all = λ same.
      let equal : get_or left i 0 ≡ get_or right i 0 = eqb-true (get_or left i 0) (get_or right i 0) (same i (omega arith)) in
      e
      ∙ ap₂ bit_or (a.all (λ k b. same k (omega arith))) (ap (λ v. bit_xor v (get_or right i 0)) equal ∙ xor_self (get_or right i 0))
      ∙ or_zero_l 0;
}

pub alike_all : {left right : List ℕ} {any i : ℕ} → Alike left right any i → 1024 ≤ i → eqb any 0 ≡ same_of left right
unfolding differing
alike_all {left} {right} {any} {i} a h =
    let most : i ≤ 1024 = a.within in
    elim (ℕ_discrete any 0) [
      | yes z ↦
          eq-eqb any 0 z
          ∙ sym (ap (λ l. eqb (length l) 0) (failing_none 1024 (is_same_at left right) (λ k b. a.none z k (omega arith))))
      | no n ↦
          ne_eqb any 0 n
          ∙ sym (ne_eqb (length (differing left right)) 0
          (λ empty. n (a.all (λ k b. passes k (omega arith) empty))))
    ]
  where
    passes : (k : ℕ) → k < 1024 → length (failing_from 0 1024 (is_same_at left right)) ≡ 0 → is_same_at left right k ≡ true
    passes k b empty = go (is_same_at left right k) refl
      where
        go : (t : Bool) → is_same_at left right k ≡ t → is_same_at left right k ≡ true
        go true e = e
        go false e =
            let there = failing_all 0 1024 (is_same_at left right) k (omega arith) (omega arith) e in
            absurd (omega (arith, there.1))

-- ---- the places that are written

-- So many places below i differ, and they stand at the front of the list.
pub record Noted (left right x y : List ℕ) (n i : ℕ) : Type 0 where
  pub room : length x ≡ 1024
  pub within : i ≤ 1024
  pub many : n ≡ length (failing_from 0 i (is_same_at left right))
  pub is : y ≡ over 0 (failing_from 0 i (is_same_at left right)) x

pub noted-none : (left right x : List ℕ) → length x ≡ 1024 → Noted left right x x 0 0
unfolding failing_from passing
noted-none left right x e = record { room = e; within = omega arith; many = refl; is = sym (over_nothing 0 x) }

-- fewer places are written than passed
pub noted-few : {left right x y : List ℕ} {n i : ℕ} → Noted left right x y n i → n ≤ i
noted-few {left} {right} {i = i} t = omega (arith, t.many, failing_few 0 i (is_same_at left right))

pub noted-length : {left right x y : List ℕ} {n i : ℕ} → Noted left right x y n i → length y ≡ 1024
noted-length {left} {right} {x} {i = i} t =
    ap length t.is
    ∙ length_over 0 (failing_from 0 i (is_same_at left right)) x (omega (arith, t.room, t.within, failing_few 0 i (is_same_at left right)))
    ∙ t.room

pub noted-same : {left right x y z : List ℕ} {n m i : ℕ} → Noted left right x y n i → i < 1024 → get_or left i 0 ≡ get_or right i 0
    → z ≡ y → m ≡ n → Noted left right x z m (i + 1)
noted-same {left} {right} {x} {i = i} t h e same-list same_count =
    let same : failing_from 0 (i + 1) (is_same_at left right) ≡ failing_from 0 i (is_same_at left right) =
    failing_passed i (is_same_at left right) (eq-eqb (get_or left i 0) (get_or right i 0) e) ∙ append-nil _ in
    record {
      room = t.room;
      within = omega arith;
      many = same_count ∙ t.many ∙ ap length (sym same);
      is = same-list ∙ t.is ∙ ap (λ l. over 0 l x) (sym same);
    }

pub noted_other : {left right x y z : List ℕ} {n m i : ℕ} → Noted left right x y n i → i < 1024 → (get_or left i 0 ≡ get_or right i 0 → ⊥)
    → z ≡ set y n i → m ≡ n + 1 → Noted left right x z m (i + 1)
noted_other {left} {right} {x} {y} {n = n} {i = i} t h e written more =
    let other = failing_failed i (is_same_at left right) (ne_eqb (get_or left i 0) (get_or right i 0) e) in
    let before = failing_from 0 i (is_same_at left right) in
    let few : length before ≤ i = failing_few 0 i (is_same_at left right) in
    record {
      room = t.room;
      within = omega arith;
      many = more ∙ ap (λ k. k + 1) t.many ∙ sym (ap length other ∙ length-append before (i ∷ []));
      is =
          written
          ∙ set-over y n i (omega (arith, noted-few t, noted-length t))
          ∙ ap₂ (λ k l. over k (i ∷ []) l) (t.many ∙ sym (zero-add (length before))) t.is
          ∙ over_append 0 before (i ∷ []) x (omega (arith, t.room))
          ∙ ap (λ l. over 0 l x) (sym other);
    }

-- At the end they are the places at which the blocks differ.
pub noted_all : {left right x y : List ℕ} {n i : ℕ} → Noted left right x y n i → 1024 ≤ i
    → (n ≡ length (differing left right)) × (y ≡ over 0 (differing left right) x)
unfolding differing
noted_all {left} {right} {x} {y} {n} {i} t h =
    let z : i ≡ 1024 = omega (arith, t.within) in (
      t.many ∙ ap (λ k. length (failing_from 0 k (is_same_at left right))) z,
      t.is ∙ ap (λ k. over 0 (failing_from 0 k (is_same_at left right)) x) z,
    )

-- ---- what the comparison gives and leaves, by the lengths

module _ (left right places : List ℕ) where
  -- the outcome of the call is this result, with this in the room for places
  abbrev Outcome : Result ℕ FileRefusal → List ℕ → Type 0
  Outcome r room = (r ≡ compared_of left right places) × (room ≡ differing_leaves left right places)

  by_answer : {a : FileAnswer} → file_answer (differing_tests left right places) ≡ a
      → Outcome (giving a (length (differing left right))) (leaves a (over 0 (differing left right) places) places)
  unfolding compared_of differing_leaves
  by_answer e = (
    sym (ap (λ a. giving a (length (differing left right))) e),
    sym (ap (λ a. leaves a (over 0 (differing left right) places) places) e),
  )

  -- A length that is not 1,024 is refused, and nothing is written.
  pub lengths-refused : {r : FileRefusal} → Err r ≡ file_answer (differing_tests left right places) → Outcome (Err r) places
  lengths-refused {r} e =
      let all = by_answer (sym e) in
      (all.0, sym (left-err r (over 0 (differing left right) places) places) ∙ all.1)

  module _ (done : file_answer (differing_tests left right places) ≡ Ok tt) where
    -- Where all three are, they are 1,024 long,
    pub lengths_are : (length left ≡ 1024) × ((length right ≡ 1024) × (length places ≡ 1024))
    lengths_are =
        let l = done_first _ _ refl done in
        let r = done_first _ _ refl l.1 in
        let p = done_first _ _ refl r.1 in
        (eqb-true (length left) 1024 l.0, (eqb-true (length right) 1024 r.0, eqb-true (length places) 1024 p.0))

    -- the places that differ are counted and written,
    pub some_differ : {n : ℕ} {y : List ℕ} → n ≡ length (differing left right) → y ≡ over 0 (differing left right) places → Outcome (Ok n) y
    some_differ many is = let all = by_answer done in (ap Ok many ∙ all.0, is ∙ all.1)

    -- and blocks that are the same have none.
    pub none_differ : same_of left right ≡ true → Outcome (Ok 0) places
    none_differ e =
        let none = empty (differing left right) (eqb-true (length (differing left right)) 0 e) in
        some_differ (sym (ap length none)) (sym (ap (λ l. over 0 l places) none ∙ over_nothing 0 places))
      where
        empty : (list : List ℕ) → length list ≡ 0 → list ≡ []
        empty [] e = refl
        empty (x ∷ list) e = absurd (omega arith)
