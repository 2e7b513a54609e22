-- A text is read as something exactly when it has the reason for it, in plain arithmetic.
-- Assumes nothing.
use Rattle.std.specs.Prelude.{Ok, Err}
use mathlib.Core.Bool.{Bool, true, false}
use mathlib.Core.List.{List, [], ◌∷◌, map}
use mathlib.Core.Logic.{◌↔◌}
use mathlib.Core.Path.{◌≡◌, refl, sym, ap, subst, ◌∙◌}
use Prim.Native.Nat.{ℕ, suc, ◌+◌, ◌*◌, ◌-◌, ◌^◌, ◌≤◌, ◌<◌, suc-le-suc}
use native.Mathlib.Nat.{add-mul, mul_assoc, pow-succ'}
use native.Mathlib.Omega.{arith}
use lib.Dec.{leb, ltb, eqb}
use lib.ListN.{length, get_or}
use borrow.Author.Tests.{lt-ltb, le-ltb, eq-eqb, ne_eqb, ltb-true, ltb-false, leb-true, leb-false, eqb-true, eqb-false}
use Rattle.lists.specs.Pick.{pick}
use Rattle.lists.specs.Search.{first_beyond}
use Rattle.lists.proofs.Search.{first-beyond_le, first-beyond-before, first-beyond-at, first-beyond_only}
use Rattle.decimal.specs.Calls.{Parsed}
use Rattle.decimal.specs.declared.NoNumber.TheVariants.{Empty, Other, Large}
use Rattle.decimal.specs.Decimal.{digit_of, digits_of, value_from, value_of}
use Rattle.decimal.specs.Calls.{parsed_of}
use Rattle.decimal.specs.Reasons.{IsDigit, Digits, sum_of, Reason}
use Rattle.decimal.proofs.Texts.{positive, digits_length, digit_at}

-- ---- one byte

-- A byte is a digit exactly when the digit that it stands for is below 10.
is_digit : (b : ℕ) → digit_of b < 10 → IsDigit b
is_digit b h = go (leb 48 b) refl h
  where
    go : (t : Bool) → leb 48 b ≡ t → pick t (b - 48) 10 < 10 → IsDigit b
    go true e h = (leb-true 48 b e, omega (arith, leb-true 48 b e))
    go false e h = absurd (omega arith)

digit-is : (b : ℕ) → IsDigit b → (digit_of b ≡ b - 48) × (digit_of b < 10)
digit-is b h = go (leb 48 b) refl
  where
    go : (t : Bool) → leb 48 b ≡ t → (pick t (b - 48) 10 ≡ b - 48) × (pick t (b - 48) 10 < 10)
    go true e = (refl, omega (arith, h.0, h.1))
    go false e = absurd (omega (arith, leb-false 48 b e, h.0))

no_digit : (b : ℕ) → 10 ≤ digit_of b → IsDigit b → ⊥
no_digit b h d = absurd (omega (arith, (digit-is b d).1))

beyond-digit : (b : ℕ) → (IsDigit b → ⊥) → 10 ≤ digit_of b
beyond-digit b h = go (ltb (digit_of b) 10) refl
  where
    go : (t : Bool) → ltb (digit_of b) 10 ≡ t → 10 ≤ digit_of b
    go true e = absurd (h (is_digit b (ltb-true (digit_of b) 10 e)))
    go false e = ltb-false (digit_of b) 10 e

-- ---- all bytes before a place

digits_below : (text : List ℕ) (p : ℕ) → p ≤ length text → Digits text p → (i : ℕ) → i < p → get_or (digits_of text) i 0 < 10
digits_below text p within all i h = omega (arith, digit_at text i (omega arith), (digit-is (get_or text i 0) (all i h)).1)

below_digits : (text : List ℕ) (p : ℕ) → p ≤ first_beyond 10 (digits_of text) → Digits text p
below_digits text p within i h =
    let long : i < length text = omega (arith, first-beyond_le 10 (digits_of text), digits_length text) in
    is_digit (get_or text i 0) (omega (arith, digit_at text i long, first-beyond-before 10 (digits_of text) i (omega arith)))

-- ---- the number

value_sum : (v : ℕ) (text : List ℕ) → Digits text (length text) → value_from v (map digit_of text) ≡ v * 10 ^ length text + sum_of text
unfolding value_from sum_of
value_sum v [] all = omega arith
value_sum v (b ∷ text) all =
    let d : digit_of b ≡ b - 48 = (digit-is b (all 0 (omega arith))).0 in
    let rest = value_sum (v * 10 + digit_of b) text (λ i h. all (suc i) (suc-le-suc h)) in
    let parts : (v * 10 + digit_of b) * 10 ^ length text ≡ v * 10 * 10 ^ length text + digit_of b * 10 ^ length text = add-mul (v * 10) (digit_of b) (10 ^ length text) in
    let ten : v * 10 * 10 ^ length text ≡ v * 10 ^ suc (length text) = mul_assoc v 10 (10 ^ length text) ∙ ap (λ n. v * n) (sym (pow-succ' 10 (length text))) in
    let last : digit_of b * 10 ^ length text ≡ (b - 48) * 10 ^ length text = ap (λ n. n * 10 ^ length text) d in
    omega (arith, rest, parts, ten, last)

value-is : (text : List ℕ) → Digits text (length text) → value_of (digits_of text) ≡ sum_of text
unfolding digits_of
value-is text all = omega (arith, value_sum 0 text all)

-- ---- what a text is read as

-- It has the reason for it.
reason_given : (text : List ℕ) → Reason text (parsed_of text)
reason_given text =
    go (eqb (length text) 0) refl (ltb (first_beyond 10 (digits_of text)) (length (digits_of text))) refl (ltb (value_of (digits_of text)) 18446744073709551616) refl
  where
    some : eqb (length text) 0 ≡ false → 0 < length text
    some e = positive (length text) (eqb-false (length text) 0 e)

    every : ltb (first_beyond 10 (digits_of text)) (length (digits_of text)) ≡ false → Digits text (length text)
    every e = below_digits text (length text) (omega (arith, ltb-false (first_beyond 10 (digits_of text)) (length (digits_of text)) e, digits_length text))

    go : (t : Bool) → eqb (length text) 0 ≡ t → (u : Bool) → ltb (first_beyond 10 (digits_of text)) (length (digits_of text)) ≡ u → (w : Bool) → ltb (value_of (digits_of text)) 18446744073709551616 ≡ w
        → Reason text (pick t (Err Empty) (pick u (Err (Other (first_beyond 10 (digits_of text)))) (pick w (Ok (value_of (digits_of text))) (Err Large))))
    go true e u f w g = eqb-true (length text) 0 e
    go false e true f w g =
        let there : (first_beyond 10 (digits_of text)) < length text = omega (arith, ltb-true (first_beyond 10 (digits_of text)) (length (digits_of text)) f, digits_length text) in (
          there,
          no_digit (get_or text (first_beyond 10 (digits_of text)) 0) (omega (arith, digit_at text (first_beyond 10 (digits_of text)) there, first-beyond-at 10 (digits_of text) (ltb-true (first_beyond 10 (digits_of text)) (length (digits_of text)) f))),
          below_digits text (first_beyond 10 (digits_of text)) (omega arith),
        )
    go false e false f true g = (some e, every f, ltb-true (value_of (digits_of text)) 18446744073709551616 g, value-is text (every f))
    go false e false f false g = (some e, every f, omega (arith, ltb-false (value_of (digits_of text)) 18446744073709551616 g, value-is text (every f)))

-- Where every byte is a digit, the search for another finds none.
none_other : (text : List ℕ) → Digits text (length text) → length (digits_of text) ≡ first_beyond 10 (digits_of text)
none_other text all =
    first-beyond_only 10 (digits_of text) (length (digits_of text)) (omega arith)
    (λ i h. digits_below text (length text) (omega arith) all i (omega (arith, digits_length text)))
    (λ h. absurd (omega arith))

-- Nothing else has a reason.
reason_only : (text : List ℕ) (r : Parsed) → Reason text r → r ≡ parsed_of text
reason_only text (Err Empty) e = simp (eq-eqb (length text) 0 e)
reason_only text (Err (Other p)) h =
    let other : 10 ≤ get_or (digits_of text) p 0 = omega (arith, beyond-digit (get_or text p 0) h.1, digit_at text p h.0) in
    let found : p ≡ first_beyond 10 (digits_of text) =
    first-beyond_only 10 (digits_of text) p (omega (arith, h.0, digits_length text)) (digits_below text p (omega (arith, h.0)) h.2) (λ _. other) in
    let there : first_beyond 10 (digits_of text) < length (digits_of text) = omega (arith, found, h.0, digits_length text) in
    simp (ne_eqb (length text) 0 (λ e. absurd (omega (arith, h.0))), lt-ltb _ _ there) (ap (λ q. Err (Other q)) found)
reason_only text (Ok n) h =
    let none = none_other text h.1 in
    let value : n ≡ value_of (digits_of text) = h.3 ∙ sym (value-is text h.1) in
    let few : value_of (digits_of text) < 18446744073709551616 = omega (arith, value, h.2) in
    simp (
      ne_eqb (length text) 0 (λ e. absurd (omega (arith, h.0))),
      le-ltb (first_beyond 10 (digits_of text)) (length (digits_of text)) (omega (arith, none)),
      lt-ltb (value_of (digits_of text)) 18446744073709551616 few,
    ) (ap Ok value)
reason_only text (Err Large) h =
    let none = none_other text h.1 in
    let many : 18446744073709551616 ≤ value_of (digits_of text) = omega (arith, value-is text h.1, h.2) in
    simp (
      ne_eqb (length text) 0 (λ e. absurd (omega (arith, h.0))),
      le-ltb (first_beyond 10 (digits_of text)) (length (digits_of text)) (omega (arith, none)),
      le-ltb (value_of (digits_of text)) 18446744073709551616 many,
    )

-- A text is read as something exactly when it has the reason for it.
pub reasons : (text : List ℕ) (r : Parsed) → (parsed_of text ≡ r) ↔ Reason text r
reasons text r = ((λ e. subst (Reason text) e (reason_given text)), (λ h. sym (reason_only text r h)))
