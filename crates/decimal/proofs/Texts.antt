-- The laws of the text of a number: how it is laid, digit by digit, and that reading and laying are inverse.
-- Assumes nothing.
use Rattle.std.specs.Prelude.{Ok, Err}
use mathlib.Core.Bool.{Bool, true, false}
use mathlib.Core.List.{List, [], ◌∷◌, ◌++◌, map, map-append}
use mathlib.Core.Path.{◌≡◌, refl, sym, ap, ap₂, ◌∙◌}
use Prim.Native.Nat.{ℕ, zero, suc, ◌+◌, ◌*◌, ◌-◌, ◌/◌, ◌%◌, ◌≤◌, ◌<◌}
use native.Mathlib.Nat.{le_of_suc-le-suc}
use native.Mathlib.Numerals.{add-one}
use native.Mathlib.Omega.{arith}
use lib.Dec.{leb, ltb, eqb}
use lib.ListN.{length, get_or, set, drop, length-append, length-map}
use lib.Seq.{drop-cons, drop-length}
use borrow.Author.Tests.{lt-ltb, le-ltb, le-leb, ne_eqb, ltb-true, ltb-false, leb-true, leb-false, eqb-false}
use Rattle.lists.specs.Pick.{pick}
use Rattle.lists.specs.Search.{first_failing, first_beyond}
use Rattle.lists.specs.Tab.{over}
use Rattle.lists.proofs.Search.{first-beyond_le, first-beyond-before}
use Rattle.lists.proofs.Overs.{set-over, over_append, over-apart}
use Rattle.decimal.specs.declared.NoNumber.TheVariants.{Empty, Other, Large}
use Rattle.decimal.specs.Decimal.{digit_of, digits_of, value_from, value_of, digits_in, text_of, Bare}
use Rattle.decimal.specs.Calls.{digits_or, parsed_of}
use Rattle.decimal.proofs.Digits.{digits_one, digits_more, digits_below, digits_few, digits_value, value_digits}

-- ---- the text of a number

-- The byte of a digit.
abbrev byte : ℕ → ℕ
byte d = 48 + d

pub text-one : (n : ℕ) → n < 10 → text_of n ≡ (48 + n) ∷ []
unfolding text_of
text-one n h = ap (map byte) (digits_one n h)

pub text_more : (n : ℕ) → 10 ≤ n → text_of n ≡ text_of (n / 10) ++ ((48 + n % 10) ∷ [])
unfolding text_of
text_more n h = ap (map byte) (digits_more n h) ∙ map-append byte (digits_in (n / 10)) (n % 10 ∷ [])

-- A number that is left over when it is laid has one byte where it is below 10, and else one more than a tenth of it.
pub long-one : (n : ℕ) → n < 10 → length (text_of n) ≡ 1
long-one n h = ap length (text-one n h)

pub long_more : (n : ℕ) → 10 ≤ n → length (text_of n) ≡ length (text_of (n / 10)) + 1
long_more n h = simp length-append at (ap length (text_more n h))

-- No text of a number is empty.
pub long_some : (n : ℕ) → 1 ≤ length (text_of n)
long_some n = go (ltb n 10) refl
  where
    go : (t : Bool) → ltb n 10 ≡ t → 1 ≤ length (text_of n)
    go true e = omega (arith, long-one n (ltb-true n 10 e))
    go false e = omega (arith, long_more n (ltb-false n 10 e))

-- A text of one byte is that of a number below 10, and a longer one is not.
pub long-few : (n : ℕ) → length (text_of n) ≤ 1 → n < 10
long-few n h = go (ltb n 10) refl
  where
    go : (t : Bool) → ltb n 10 ≡ t → n < 10
    go true e = ltb-true n 10 e
    go false e = absurd (omega (arith, long_more n (ltb-false n 10 e), long_some (n / 10)))

pub long_many : (n : ℕ) → 2 ≤ length (text_of n) → 10 ≤ n
long_many n h = go (ltb n 10) refl
  where
    go : (t : Bool) → ltb n 10 ≡ t → 10 ≤ n
    go true e = absurd (omega (arith, long-one n (ltb-true n 10 e)))
    go false e = ltb-false n 10 e

-- The text of a number of 64 bits has at most 20 bytes.
pub long-most : (n : ℕ) → n < 18446744073709551616 → length (text_of n) ≤ 20
unfolding text_of
long-most n h = omega (arith, length-map (digits_in n) byte, digits_few 19 n (omega arith))

-- ---- laid from the last digit to the first

-- The last digit is laid, and then those before it.
pub laid_last : (x : List ℕ) (v : ℕ) (l : List ℕ) (i : ℕ) → i ≡ length x → i < length l → over 0 x (set l i v) ≡ over 0 (x ++ (v ∷ [])) l
laid_last x v l i e h =
    ap (over 0 x) (set-over l i v h)
    ∙ over-apart 0 i x (v ∷ []) l (omega arith) (omega arith)
    ∙ ap (λ k. over k (v ∷ []) (over 0 x l)) {x = i} {y = 0 + length x} (omega arith)
    ∙ over_append 0 x (v ∷ []) l (omega arith)

pub laid_first : (v : ℕ) (l : List ℕ) → 0 < length l → set l 0 v ≡ over 0 (v ∷ []) l
laid_first v l h = set-over l 0 v h

-- ---- the digits of a text

pub digits_length : (text : List ℕ) → length (digits_of text) ≡ length text
unfolding digits_of
digits_length text = length-map text digit_of

pub digit_at : (text : List ℕ) (i : ℕ) → i < length text → get_or (digits_of text) i 0 ≡ digit_of (get_or text i 0)
unfolding digits_of
digit_at [] i h = absurd (omega arith)
digit_at (x ∷ text) zero h = refl
digit_at (x ∷ text) (suc i) h = digit_at text i (le_of_suc-le-suc h)

-- ---- reading them one after the other

-- The number so far takes the digit at place i, and is then followed by the digits behind it.
pub value-next : (text : List ℕ) (v i d : ℕ) → i < length text → d ≡ digit_of (get_or text i 0)
    → value_from (v * 10 + d) (drop (i + 1) (digits_of text)) ≡ value_from v (drop i (digits_of text))
unfolding value_from
value-next text v i d h e =
    let long : i < length (digits_of text) = omega (arith, digits_length text) in
    let here : get_or (digits_of text) i 0 ≡ d = digit_at text i h ∙ sym e in
    sym (ap (value_from v) (drop-cons (digits_of text) i 0 long)
    ∙ ap₂ (λ x k. value_from (v * 10 + x) (drop k (digits_of text))) here (sym (add-one i)))

-- No digit is left.
pub value-end : (text : List ℕ) (v i : ℕ) → i ≡ length text → value_from v (drop i (digits_of text)) ≡ v
unfolding value_from
value-end text v i e =
    ap (λ k. value_from v (drop k (digits_of text))) (e ∙ sym (digits_length text)) ∙ ap (value_from v) (drop-length (digits_of text))

-- ---- the two are inverse

-- The digits of the text of a number are its digits.
same_digits : (x : List ℕ) → map digit_of (map byte x) ≡ x
same_digits [] = refl
same_digits (d ∷ x) = ap₂ ◌∷◌ (simp (le-leb 48 (48 + d) (omega arith)) (omega arith)) (same_digits x)

digits_text : (n : ℕ) → digits_of (text_of n) ≡ digits_in n
unfolding digits_of text_of
digits_text n = same_digits (digits_in n)

-- The text of every number of 64 bits is read as that number.
pub parse-text : (n : ℕ) → n < 18446744073709551616 → parsed_of (text_of n) ≡ Ok n
parse-text n h =
    let some : length (text_of n) ≡ 0 → ⊥ = λ e. absurd (omega (arith, long_some n)) in
    simp (
      ne_eqb (length (text_of n)) 0 some,
      digits_text n,
      digits_below n,
      le-ltb (length (digits_in n)) (length (digits_in n)) (omega arith),
      value_digits n,
      lt-ltb n 18446744073709551616 h,
    )

pub positive : (n : ℕ) → (n ≡ 0 → ⊥) → 1 ≤ n
positive zero h = absurd (h refl)
positive (suc n) h = omega arith

-- A text that is read as a number has digits alone, and the number is theirs.
record Read (digits : List ℕ) (n : ℕ) : Type 0 where
  below : first_beyond 10 digits ≡ length digits
  value : value_of digits ≡ n

read_number : (digits : List ℕ) (n : ℕ) → digits_or digits ≡ Ok n → Read digits n
read_number x n e = go (ltb (first_beyond 10 x) (length x)) refl (ltb (value_of x) 18446744073709551616) e
  where
    go : (t : Bool) → ltb (first_beyond 10 x) (length x) ≡ t → (u : Bool)
        → pick t (Err (Other (first_beyond 10 x))) (pick u (Ok (value_of x)) (Err Large)) ≡ Ok n → Read x n
    go true f u e = let z : ◌≡◌ {A = ℕ} 0 1 = cc in absurd (omega arith)
    go false f false e = let z : ◌≡◌ {A = ℕ} 0 1 = cc in absurd (omega arith)
    go false f true e =
        let v : value_of x ≡ n = cc in
        record { below = omega (arith, ltb-false (first_beyond 10 x) (length x) f, first-beyond_le 10 x); value = v }

-- The byte of the digit of a byte is that byte.
same_byte : (b : ℕ) → digit_of b < 10 → 48 + digit_of b ≡ b
same_byte b h = go (leb 48 b) refl h
  where
    go : (t : Bool) → leb 48 b ≡ t → pick t (b - 48) 10 < 10 → 48 + pick t (b - 48) 10 ≡ b
    go true e h = omega (arith, leb-true 48 b e)
    go false e h = absurd (omega arith)

same_bytes : (text : List ℕ) → first_beyond 10 (map digit_of text) ≡ length (map digit_of text) → map byte (map digit_of text) ≡ text
unfolding first_beyond first_failing
same_bytes [] e = refl
same_bytes (b ∷ text) e = go (ltb (digit_of b) 10) refl e (λ rest. same_bytes text rest)
  where
    go : (t : Bool) → ltb (digit_of b) 10 ≡ t → pick t (suc (first_beyond 10 (map digit_of text))) 0 ≡ suc (length (map digit_of text))
        → (first_beyond 10 (map digit_of text) ≡ length (map digit_of text) → map byte (map digit_of text) ≡ text)
        → byte (digit_of b) ∷ map byte (map digit_of text) ≡ b ∷ text
    go true f e rest = ap₂ ◌∷◌ (same_byte b (ltb-true (digit_of b) 10 f)) (rest (omega arith))
    go false f e rest = absurd (omega arith)

-- The digits of the number of a bare text are its digits: of a text of one byte it is the only one, and else the first
-- is not 0.
bare_digits : (text : List ℕ) (n : ℕ) → 1 ≤ length text → Bare text → Read (map digit_of text) n → digits_in n ≡ map digit_of text
unfolding value_from
bare_digits [] n some bare read = absurd (omega arith)
bare_digits (b ∷ []) n some bare read =
    let small : digit_of b < 10 = first-beyond-before 10 (digit_of b ∷ []) 0 (omega (arith, read.below)) in
    let only : n ≡ digit_of b = omega (arith, read.value) in
    ap digits_in only ∙ digits_one (digit_of b) small
bare_digits (b ∷ c ∷ text) n some bare read =
    let small : digit_of b < 10 = first-beyond-before 10 (map digit_of (b ∷ c ∷ text)) 0 (omega (arith, read.below)) in
    let same = same_byte b small in
    let first : 1 ≤ digit_of b = go (leb 1 (digit_of b)) refl in
    ap digits_in (sym read.value) ∙ digits_value (digit_of b) (map digit_of (c ∷ text)) first read.below
  where
    go : (t : Bool) → leb 1 (digit_of b) ≡ t → 1 ≤ digit_of b
    go true e = leb-true 1 (digit_of b) e
    go false e =
        let zero-byte : b ≡ 48 = omega (arith, leb-false 1 (digit_of b) e, same_byte b (omega (arith, leb-false 1 (digit_of b) e))) in
        absurd (omega (arith, bare zero-byte))

-- A bare text that is read is the text of what was read.
pub text-parse : (text : List ℕ) (n : ℕ) → parsed_of text ≡ Ok n → Bare text → text_of n ≡ text
unfolding text_of digits_of
text-parse text n e bare = go (eqb (length text) 0) refl e
  where
    go : (t : Bool) → eqb (length text) 0 ≡ t → pick t (Err Empty) (digits_or (map digit_of text)) ≡ Ok n → text_of n ≡ text
    go true f e = let z : ◌≡◌ {A = ℕ} 0 1 = cc in absurd (omega arith)
    go false f e =
        let read = read_number (map digit_of text) n e in
        let some : 1 ≤ length text = positive (length text) (eqb-false (length text) 0 f) in
        ap (map byte) (bare_digits text n some bare read) ∙ same_bytes text read.below
