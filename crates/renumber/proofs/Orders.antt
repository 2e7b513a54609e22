-- An order that has n different places below n has each of them: n places below n are all places once.
-- Assumes nothing.
use mathlib.Core.List.{List}
use mathlib.Core.Path.{◌≡◌, sym, ap, ◌∙◌}
use Prim.Native.Nat.{ℕ, zero, suc, ◌-◌, ◌≤◌, ◌<◌}
use native.Mathlib.Decide.{dec_lt}
use native.Mathlib.Omega.{arith}
use lib.Dec.{ltb}
use lib.ListN.{length, get_or}
use borrow.Author.Tests.{lt-ltb, le-ltb}
use Rattle.lists.specs.Pick.{pick}
use Rattle.renumber.specs.InnerPairs.{Within}

-- A number without v: those above v are one less.
abbrev without : (v y : ℕ) → ℕ
without v y = pick (ltb v y) (y - 1) y

without_above : (v y : ℕ) → v < y → without v y ≡ y - 1
without_above v y h = ap (λ b. pick b (y - 1) y) (lt-ltb v y h)

without_below : (v y : ℕ) → y ≤ v → without v y ≡ y
without_below v y h = ap (λ b. pick b (y - 1) y) (le-ltb v y h)

without_small : (n v y : ℕ) → v ≤ n → y ≤ n → (y ≡ v → ⊥) → without v y < n
without_small n v y a b other =
    elim (dec_lt v y) [
      | yes h ↦ omega (arith, without_above v y h)
      | no h ↦ let less : y < v = omega (arith) in omega (arith, without_below v y (omega arith))
    ]

without_other : (v y z : ℕ) → (y ≡ v → ⊥) → (z ≡ v → ⊥) → without v y ≡ without v z → y ≡ z
without_other v y z p q e =
    elim (dec_lt v y) [
      | yes h ↦
          elim (dec_lt v z) [
            | yes g ↦ omega (arith, without_above v y h, without_above v z g)
            | no g ↦ absurd (q (omega (arith, without_above v y h, without_below v z (omega arith))))
          ]
      | no h ↦
          elim (dec_lt v z) [
            | yes g ↦ absurd (p (omega (arith, without_below v y (omega arith), without_above v z g)))
            | no g ↦ omega (arith, without_below v y (omega arith), without_below v z (omega arith))
          ]
    ]

-- There are no n + 1 different numbers below n.
none_more : (n : ℕ) (f : ℕ → ℕ) → ((i : ℕ) → i ≤ n → f i < n) → ((i j : ℕ) → i < j → j ≤ n → f i ≡ f j → ⊥) → ⊥
none_more zero f small other = let h : f 0 < 0 = small 0 (omega arith) in omega arith
none_more (suc n) f small other =
    let v : ℕ = f (suc n) in
    none_more n (λ i. without v (f i))
    (λ i h. without_small n v (f i) (omega (arith, small (suc n) (omega arith))) (omega (arith, small i (omega arith))) (other i (suc n) (omega arith) (omega arith)))
    (λ i j h m e. other i j h (omega arith)
    (without_other v (f i) (f j) (other i (suc n) (omega arith) (omega arith)) (other j (suc n) (omega arith) (omega arith)) e))

-- No two places of an order are the same.
abbrev pub Different : (order : List ℕ) → Type 0
Different order = (i j : ℕ) → i < j → j < length order → get_or order i 0 ≡ get_or order j 0 → ⊥

-- A number that would stand nowhere would be one more.
pub nowhere : (order : List ℕ) → Within (length order) order → Different order → (q : ℕ) → q < length order
    → ((i : ℕ) → i < length order → get_or order i 0 ≡ q → ⊥) → ⊥
nowhere order places other q h none = none_more (length order) f small apart
  where
    f : ℕ → ℕ
    f i = pick (ltb i (length order)) (get_or order i 0) q

    in_order : (i : ℕ) → i < length order → f i ≡ get_or order i 0
    in_order i h = ap (λ b. pick b (get_or order i 0) q) (lt-ltb i (length order) h)

    behind : (i : ℕ) → length order ≤ i → f i ≡ q
    behind i h = ap (λ b. pick b (get_or order i 0) q) (le-ltb i (length order) h)

    small : (i : ℕ) → i ≤ length order → f i < length order
    small i b =
        elim (dec_lt i (length order)) [
          | yes m ↦ omega (arith, in_order i m, places i m)
          | no m ↦ omega (arith, behind i (omega arith))
        ]

    apart : (i j : ℕ) → i < j → j ≤ length order → f i ≡ f j → ⊥
    apart i j l b e =
        elim (dec_lt j (length order)) [
          | yes m ↦ other i j l m (sym (in_order i (omega arith)) ∙ e ∙ in_order j m)
          | no m ↦ none i (omega arith) (sym (in_order i (omega arith)) ∙ e ∙ behind j (omega arith))
        ]
