-- The laws of the bits of a number, and of the number that is made of digits.
-- Assumes nothing.
use mathlib.Core.Path.{◌≡◌, sym, ap, ap₂, ◌∙◌}
use Prim.Native.Nat.{ℕ, zero, suc, ◌+◌, ◌-◌, ◌*◌, ◌/◌, ◌%◌, ◌^◌, ◌≤◌, ◌<◌}
use native.Mathlib.Decide.{ℕ_discrete}
use native.Mathlib.Nat.{add_comm, zero-add, zero-div, mul-suc, mul-le-mul_left, one-mul, div-one, mod-eq_of_lt, not-suc-le-zero}
use native.Mathlib.Omega.{arith}
use lib.Bits.{bit_and, bit_xor, and_shr, xor_shr, and_mod, xor_mod}
use lib.Pow.{pow_pos, mod-mod-pow, field, shr-shr, high, low, shl-shr}
use Rattle.lists.specs.Numbers.{number, digit}
use Rattle.lists.proofs.Digits.{number_lt, number_ext, digit_lt, number-digit}
use Rattle.bits.specs.Bits.{bit_of}

-- A bit is a digit of one bit: what is left of the number above place i, modulo 2. It is 0 or 1.
pub bit_is : (x i : ℕ) → bit_of x i ≡ x / 2 ^ i % 2
unfolding digit
bit_is x i = ap (λ n. x / 2 ^ n % 2) (one-mul i)

pub bit-lt : (x i : ℕ) → bit_of x i < 2
bit-lt x i = digit_lt 1 x i

-- What is cut off above bit p does not change it, nor does what is added above it.
pub bit_mod : (x m p : ℕ) → p < m → bit_of (x % 2 ^ m) p ≡ bit_of x p
bit_mod x m p h =
    let e : m ≡ (m - (1 + p)) + (1 + p) = omega arith in
    bit_is (x % 2 ^ m) p
    ∙ sym (field (x % 2 ^ m) 1 p)
    ∙ ap (λ k. x % 2 ^ k % 2 ^ (1 + p) / 2 ^ p) e
    ∙ ap (λ n. n / 2 ^ p) (mod-mod-pow x (m - (1 + p)) (1 + p))
    ∙ field x 1 p
    ∙ sym (bit_is x p)

bit_below : (x y m p : ℕ) → x < 2 ^ m → p < m → bit_of (x + y * 2 ^ m) p ≡ bit_of x p
bit_below x y m p h l =
    sym (bit_mod (x + y * 2 ^ m) m p l)
    ∙ ap (λ n. bit_of n p) (ap (λ n. n % 2 ^ m) (add_comm x (y * 2 ^ m)) ∙ low y m h)

-- Shifts move bits, and a shift up puts zeros below.
pub bit-shr : (x k p : ℕ) → bit_of (x / 2 ^ k) p ≡ bit_of x (k + p)
bit-shr x k p = bit_is (x / 2 ^ k) p ∙ ap (λ n. n % 2) (shr-shr x k p) ∙ sym (bit_is x (k + p))

pub bit_shl : (x k p : ℕ) → bit_of (x * 2 ^ k) (k + p) ≡ bit_of x p
bit_shl x k p = sym (bit-shr (x * 2 ^ k) k p) ∙ ap (λ n. bit_of n p) (shl-shr x k)

pub bit_shl_below : (x k p : ℕ) → p < k → bit_of (x * 2 ^ k) p ≡ 0
bit_shl_below x k p h =
    sym (ap (λ n. bit_of n p) (zero-add (x * 2 ^ k))) ∙ bit_below 0 x k p (pow_pos k) h ∙ bit_is 0 p ∙ ap (λ n. n % 2) (zero-div (2 ^ p))

-- The operations go bit by bit.
pub bit_and_lem : (x y p : ℕ) → bit_of (bit_and x y) p ≡ bit_and (bit_of x p) (bit_of y p)
bit_and_lem x y p =
    bit_is (bit_and x y) p
    ∙ ap (λ n. n % 2) (and_shr x y p)
    ∙ and_mod (x / 2 ^ p) (y / 2 ^ p) 1
    ∙ sym (ap₂ bit_and (bit_is x p) (bit_is y p))

pub bit_xor_lem : (x y p : ℕ) → bit_of (bit_xor x y) p ≡ bit_xor (bit_of x p) (bit_of y p)
bit_xor_lem x y p =
    bit_is (bit_xor x y) p
    ∙ ap (λ n. n % 2) (xor_shr x y p)
    ∙ xor_mod (x / 2 ^ p) (y / 2 ^ p) 1
    ∙ sym (ap₂ bit_xor (bit_is x p) (bit_is y p))

-- Bit j of digit k is a bit of the number.
pub bit-number : (b : ℕ) (f : ℕ → ℕ) (n : ℕ) → ((k : ℕ) → k < n → f k < 2 ^ b) → (k j : ℕ) → k < n → j < b
    → bit_of (number b f n) (b * k + j) ≡ bit_of (f k) j
unfolding number
bit-number b f zero h k j hk hj = absurd (not-suc-le-zero hk)
bit-number b f (suc n) h k j hk hj =
    let small : number b f n < 2 ^ (b * n) = number_lt b f n (λ k l. h k (omega arith)) in
    elim (ℕ_discrete k n) [
      | yes e ↦ rw e
          (sym (bit-shr (number b f n + f n * 2 ^ (b * n)) (b * n) j)
          ∙ ap (λ m. bit_of m j) (ap (λ m. m / 2 ^ (b * n)) (add_comm (number b f n) (f n * 2 ^ (b * n))) ∙ high (f n) (b * n) small))
      | no d ↦ let l : b * suc k ≤ b * n = mul-le-mul_left b (omega arith) in
          bit_below (number b f n) (f n) (b * n) (b * k + j) small (omega (arith, mul-suc b k))
          ∙ bit-number b f n (λ k l. h k (omega arith)) k j (omega arith) hj
    ]

-- The number that is made of the bits f has these bits.
pub bit-of-number : (f : ℕ → ℕ) (n : ℕ) → ((k : ℕ) → k < n → f k < 2) → (i : ℕ) → i < n → bit_of (number 1 f n) i ≡ f i
bit-of-number f n h i l =
    ap (bit_of (number 1 f n)) (omega arith)
    ∙ bit-number 1 f n h i 0 l (omega arith)
    ∙ bit_is (f i) 0
    ∙ ap (λ m. m % 2) (div-one (f i))
    ∙ mod-eq_of_lt (h i l)

-- The number that is made of the first n bits of x is x cut to n bits.
number-bits : (x n : ℕ) → number 1 (bit_of x) n ≡ x % 2 ^ n
number-bits x n = number-digit 1 x n ∙ ap (λ k. x % 2 ^ k) (one-mul n)

-- A number below 2^n is the one that its bits make, whatever rule gives them.
pub is_number : (x n : ℕ) (f : ℕ → ℕ) → x < 2 ^ n → ((i : ℕ) → i < n → bit_of x i ≡ f i) → x ≡ number 1 f n
is_number x n f h e = sym (number-bits x n ∙ mod-eq_of_lt h) ∙ number_ext 1 (bit_of x) f n e
