-- The laws of the digits of a number, and of the number of digits. A number is the number of its digits, and digits
-- with no zero at the front are those of their number.
-- Assumes nothing.
use mathlib.Core.Bool.{Bool, true, false}
use mathlib.Core.List.{List, [], ◌∷◌, ◌++◌, append-nil, append_assoc}
use mathlib.Core.Path.{◌≡◌, refl, sym, ap, ap₂, ◌∙◌}
use Prim.Native.Nat.{ℕ, zero, suc, ◌+◌, ◌*◌, ◌/◌, ◌%◌, ◌^◌, ◌≤◌, ◌<◌}
use native.Mathlib.Nat.{le_trans, pow-suc}
use native.Mathlib.Omega.{arith}
use lib.Dec.{ltb}
use lib.ListN.{length, length-append}
use borrow.Author.Tests.{lt-ltb, le-ltb, ltb-true, ltb-false}
use Rattle.lists.specs.Pick.{pick}
use Rattle.lists.specs.Search.{first_failing, first_beyond}
use Rattle.decimal.specs.Decimal.{value_from, value_of, digits_within, digits_in}

-- ---- the digits of a number

-- However often it may go on, as long as that is no less than the number, the digits are the same.
within-enough : (a b n : ℕ) → n ≤ a → n ≤ b → digits_within a n ≡ digits_within b n
unfolding digits_within
within-enough zero zero n ha hb = refl
within-enough zero (suc b) n ha hb = rw (lt-ltb n 10 (omega arith))
within-enough (suc a) zero n ha hb = rw (lt-ltb n 10 (omega arith))
within-enough (suc a) (suc b) n ha hb = go (ltb n 10) refl (λ many. within-enough a b (n / 10) (omega arith) (omega arith))
  where
    go : (t : Bool) → ltb n 10 ≡ t → (10 ≤ n → digits_within a (n / 10) ≡ digits_within b (n / 10))
        → pick t (n ∷ []) (digits_within a (n / 10) ++ (n % 10 ∷ [])) ≡ pick t (n ∷ []) (digits_within b (n / 10) ++ (n % 10 ∷ []))
    go true e rest = refl
    go false e rest = ap (λ l. l ++ (n % 10 ∷ [])) (rest (ltb-false n 10 e))

-- A number below 10 is its only digit.
pub digits_one : (n : ℕ) → n < 10 → digits_in n ≡ n ∷ []
unfolding digits_in digits_within
digits_one zero h = refl
digits_one (suc n) h = rw (lt-ltb (suc n) 10 h)

-- The last digit of any other stands behind those of a tenth of it.
pub digits_more : (n : ℕ) → 10 ≤ n → digits_in n ≡ digits_in (n / 10) ++ (n % 10 ∷ [])
unfolding digits_in digits_within
digits_more zero h = absurd (omega arith)
digits_more (suc n) h =
    rw (le-ltb (suc n) 10 h) (ap (λ l. l ++ (suc n % 10 ∷ [])) (within-enough n (suc n / 10) (suc n / 10) (omega arith) (omega arith)))

-- ---- the number of digits

-- One digit more, at the end.
value_last : (v : ℕ) (x : List ℕ) (d : ℕ) → value_from v (x ++ (d ∷ [])) ≡ value_from v x * 10 + d
unfolding value_from
value_last v [] d = refl
value_last v (y ∷ x) d = value_last (v * 10 + y) x d

-- What stands in front is never more than the whole.
pub value_more : (v : ℕ) (x : List ℕ) → v ≤ value_from v x
unfolding value_from
value_more v [] = omega arith
value_more v (d ∷ x) = le_trans (omega arith) (value_more (v * 10 + d) x)

value-within : (k n : ℕ) → value_of (digits_within k n) ≡ n
unfolding digits_within value_from
value-within zero n = omega arith
value-within (suc k) n = go (ltb n 10) (value-within k (n / 10))
  where
    go : (t : Bool) → value_of (digits_within k (n / 10)) ≡ n / 10 → value_of (pick t (n ∷ []) (digits_within k (n / 10) ++ (n % 10 ∷ []))) ≡ n
    go true e = omega arith
    go false e = omega (arith, value_last 0 (digits_within k (n / 10)) (n % 10), e)

-- The number of the digits of a number is that number.
pub value_digits : (n : ℕ) → value_of (digits_in n) ≡ n
unfolding digits_in
value_digits n = value-within n n

-- ---- every digit is below 10

-- One digit more, at the end.
below_last : (x : List ℕ) (d : ℕ) → first_beyond 10 x ≡ length x → d < 10 → first_beyond 10 (x ++ (d ∷ [])) ≡ length (x ++ (d ∷ []))
unfolding first_beyond first_failing
below_last [] d e h = rw (lt-ltb d 10 h)
below_last (y ∷ x) d e h = go (ltb y 10) e (λ f. below_last x d f h)
  where
    go : (t : Bool) → pick t (suc (first_beyond 10 x)) 0 ≡ suc (length x)
        → (first_beyond 10 x ≡ length x → first_beyond 10 (x ++ (d ∷ [])) ≡ length (x ++ (d ∷ [])))
        → pick t (suc (first_beyond 10 (x ++ (d ∷ [])))) 0 ≡ suc (length (x ++ (d ∷ [])))
    go true e rest = ap suc (rest (omega arith))
    go false e rest = absurd (omega arith)

below-within : (k n : ℕ) → n ≤ k → first_beyond 10 (digits_within k n) ≡ length (digits_within k n)
unfolding digits_within first_beyond first_failing
below-within zero n h = rw (lt-ltb n 10 (omega arith))
below-within (suc k) n h = go (ltb n 10) refl (λ many. below-within k (n / 10) (omega arith))
  where
    go : (t : Bool) → ltb n 10 ≡ t → (10 ≤ n → first_beyond 10 (digits_within k (n / 10)) ≡ length (digits_within k (n / 10)))
        → first_beyond 10 (pick t (n ∷ []) (digits_within k (n / 10) ++ (n % 10 ∷ []))) ≡ length (pick t (n ∷ []) (digits_within k (n / 10) ++ (n % 10 ∷ [])))
    go true e rest = rw e
    go false e rest = below_last (digits_within k (n / 10)) (n % 10) (rest (ltb-false n 10 e)) (omega arith)

-- No digit of a number is 10 or more.
pub digits_below : (n : ℕ) → first_beyond 10 (digits_in n) ≡ length (digits_in n)
unfolding digits_in
digits_below n = below-within n n (omega arith)

-- ---- the digits of the number of digits

-- Digits behind a number that is not 0 stand behind its digits.
digits_behind : (v : ℕ) (x : List ℕ) → 1 ≤ v → first_beyond 10 x ≡ length x → digits_in (value_from v x) ≡ digits_in v ++ x
unfolding value_from first_beyond first_failing
digits_behind v [] h all = sym (append-nil (digits_in v))
digits_behind v (d ∷ x) h all = go (ltb d 10) refl all (λ rest. digits_behind (v * 10 + d) x (omega arith) rest)
  where
    go : (t : Bool) → ltb d 10 ≡ t → pick t (suc (first_beyond 10 x)) 0 ≡ suc (length x)
        → (first_beyond 10 x ≡ length x → digits_in (value_from (v * 10 + d) x) ≡ digits_in (v * 10 + d) ++ x)
        → digits_in (value_from (v * 10 + d) x) ≡ digits_in v ++ d ∷ x
    go true e all rest =
        let small = ltb-true d 10 e in
        let tenth : (v * 10 + d) / 10 ≡ v = omega arith in
        let last : (v * 10 + d) % 10 ≡ d = omega arith in
        rest (omega arith)
        ∙ ap (λ l. l ++ x) (digits_more (v * 10 + d) (omega arith) ∙ ap₂ (λ a b. digits_in a ++ (b ∷ [])) tenth last)
        ∙ append_assoc (digits_in v) (d ∷ []) x
    go false e all rest = absurd (omega arith)

-- Digits with no zero at the front are those of their number.
pub digits_value : (d : ℕ) (x : List ℕ) → 1 ≤ d → first_beyond 10 (d ∷ x) ≡ length (d ∷ x) → digits_in (value_of (d ∷ x)) ≡ d ∷ x
unfolding value_from first_beyond first_failing
digits_value d x h all = go (ltb d 10) refl all
  where
    go : (t : Bool) → ltb d 10 ≡ t → pick t (suc (first_beyond 10 x)) 0 ≡ suc (length x) → digits_in (value_from (0 * 10 + d) x) ≡ d ∷ x
    go true e all =
        digits_behind (0 * 10 + d) x (omega arith) (omega arith)
        ∙ ap (λ n. digits_in n ++ x) {x = 0 * 10 + d} {y = d} (omega arith)
        ∙ ap (λ l. l ++ x) (digits_one d (ltb-true d 10 e))
    go false e all = absurd (omega arith)

-- ---- how many digits there are

-- A number below 10^(k + 1) has at most k + 1 digits.
pub digits_few : (k n : ℕ) → n < 10 ^ (k + 1) → length (digits_in n) ≤ k + 1
digits_few zero n h = omega (arith, ap length (digits_one n h))
digits_few (suc k) n h =
    let power : 10 ^ (suc k + 1) ≡ 10 ^ suc (k + 1) = ap (λ m. 10 ^ m) {x = suc k + 1} {y = suc (k + 1)} (omega arith) in
    let tenth : n / 10 < 10 ^ (k + 1) = omega (arith, pow-suc 10 (k + 1)) in
    go (ltb n 10) refl (digits_few k (n / 10) tenth)
  where
    go : (t : Bool) → ltb n 10 ≡ t → length (digits_in (n / 10)) ≤ k + 1 → length (digits_in n) ≤ suc k + 1
    go true e rest = omega (arith, ap length (digits_one n (ltb-true n 10 e)))
    go false e rest = omega (arith, simp length-append at (ap length (digits_more n (ltb-false n 10 e))))
