-- The laws of a number and its digits, over the number b of bits of a digit: a number is below the power that its
-- digits fill, its digits are the ones that it was made of, and the number made of the digits of m is m, cut to that
-- many digits.
-- Assumes nothing.
use mathlib.Core.Path.{◌≡◌, refl, sym, ap, ◌∙◌}
use mathlib.Core.List.{List}
use Prim.Native.Nat.{ℕ, zero, suc, ◌+◌, ◌-◌, ◌*◌, ◌/◌, ◌%◌, ◌^◌, ◌≤◌, ◌<◌}
use native.Mathlib.Nat.{add-zero, add-suc, zero-add, add_comm, mul-zero, mul-suc, mul-add, mul_assoc, add-mul, add-sub_of_le, mod-lt, mod-one, mod-eq_of_lt, le_refl, zero-mul}
use native.Mathlib.Numerals.{add-one}
use native.Mathlib.Decide.{dec_lt}
use native.Mathlib.Omega.{arith}
use lib.Arith.{digits_lt}
use lib.ListN.{length, get_or, get_or-eq_default}
use lib.Pow.{pow_pos, pow-add, mod-pow-add, field, split, shr-shr, high, low}
use Rattle.lists.specs.Numbers.{number, digit, Elements}

-- the exponent of one digit more
pow_more : (b n : ℕ) → 2 ^ (b * suc n) ≡ 2 ^ b * 2 ^ (b * n)
pow_more b n = ap (λ k. 2 ^ k) (mul-suc b n ∙ add_comm (b * n) b) ∙ pow-add 2 b (b * n)

-- A number of n digits of b bits is below 2 ^ (b * n).
pub number_lt : (b : ℕ) (f : ℕ → ℕ) (n : ℕ) → ((k : ℕ) → k < n → f k < 2 ^ b) → number b f n < 2 ^ (b * n)
unfolding number
number_lt b f zero h = pow_pos (b * zero)
number_lt b f (suc n) h =
    rw (pow_more, add_comm (number b f n)) (digits_lt (h n (le_refl (suc n))) (number_lt b f n (λ k l. h k (omega arith))))

-- Two digit functions that agree below n give one number.
pub number_ext : (b : ℕ) (f g : ℕ → ℕ) (n : ℕ) → ((k : ℕ) → k < n → f k ≡ g k) → number b f n ≡ number b g n
unfolding number
number_ext b f g zero h = refl
number_ext b f g (suc n) h = rw (number_ext b f g n (λ k l. h k (omega arith)), h n (le_refl (suc n)))

-- A digit of b bits is below 2 ^ b.
pub digit_lt : (b m i : ℕ) → digit b m i < 2 ^ b
unfolding digit
digit_lt b m i = mod-lt (m / 2 ^ (b * i)) (pow_pos b)

-- The digits from place k on are the number of the rest: no digit needs a bound for that.
pub number-split : (b : ℕ) (f : ℕ → ℕ) (k j : ℕ) → number b f (k + j) ≡ number b (λ i. f (k + i)) j * 2 ^ (b * k) + number b f k
unfolding number
number-split b f k zero = rw (add-zero, zero-mul, zero-add)
number-split b f k (suc j) =
    let top : f (k + j) * 2 ^ (b * (k + j)) ≡ f (k + j) * 2 ^ (b * j) * 2 ^ (b * k) =
    rw (mul-add, add_comm (b * k), pow-add) (sym (mul_assoc (f (k + j)) (2 ^ (b * j)) (2 ^ (b * k)))) in
    rw (add-suc, add-mul) (omega (arith, number-split b f k j))

-- Cut to its first k digits, a number is the number of these.
pub number-front : (b : ℕ) (f : ℕ → ℕ) (k n : ℕ) → k ≤ n → ((i : ℕ) → i < k → f i < 2 ^ b) → number b f n % 2 ^ (b * k) ≡ number b f k
number-front b f k n l h =
    ap (λ m. number b f m % 2 ^ (b * k)) (sym (add-sub_of_le l))
    ∙ ap (λ m. m % 2 ^ (b * k)) (number-split b f k (n - k))
    ∙ low (number b (λ i. f (k + i)) (n - k)) (b * k) (number_lt b f k h)

-- The digits of a number are the ones that it was made of.
pub digit-number : (b : ℕ) (f : ℕ → ℕ) (n i : ℕ) → ((k : ℕ) → k < n → f k < 2 ^ b) → i < n → digit b (number b f n) i ≡ f i
unfolding digit number
digit-number b f n i h l =
    sym (field (number b f n) b (b * i))
    ∙ ap (λ e. number b f n % 2 ^ e / 2 ^ (b * i)) (add_comm b (b * i) ∙ sym (mul-suc b i))
    ∙ ap (λ m. m / 2 ^ (b * i)) (number-front b f (suc i) n l (λ k m. h k (omega arith)) ∙ add_comm (number b f i) (f i * 2 ^ (b * i)))
    ∙ high (f i) (b * i) (number_lt b f i (λ k m. h k (omega arith)))

-- From digit k on, m is digit k, and above it m from the next digit on.
pub digit_from : (b m k : ℕ) → m / 2 ^ (b * k) ≡ m / 2 ^ (b * (k + 1)) * 2 ^ b + digit b m k
unfolding digit
digit_from b m k =
    sym (split (m / 2 ^ (b * k)) b)
    ∙ ap (λ n. n * 2 ^ b + m / 2 ^ (b * k) % 2 ^ b) (shr-shr m (b * k) b ∙ ap (λ e. m / 2 ^ e) (sym (mul-suc b k) ∙ ap (λ j. b * j) (sym (add-one k))))

-- The number made of the digits of m is m cut to n digits.
pub number-digit : (b m n : ℕ) → number b (digit b m) n ≡ m % 2 ^ (b * n)
unfolding number digit
number-digit b m zero = rw (mul-zero) (sym (mod-one m))
number-digit b m (suc n) =
    rw (number-digit b m n, mul-suc, add_comm (b * n) b, mod-pow-add) (add_comm (m % 2 ^ (b * n)) _)

-- So it is m where m has no more than n digits.
pub number_digits : (b m n : ℕ) → m < 2 ^ (b * n) → number b (digit b m) n ≡ m
number_digits b m n h = number-digit b m n ∙ mod-eq_of_lt h

-- A list of n entries holds numbers of t bits where each entry is one: beyond its end stands 0.
pub elements-of : (t n : ℕ) (x : List ℕ) → length x ≡ n → ((i : ℕ) → i < n → get_or x i 0 < 2 ^ t) → Elements t x
elements-of t n x e small i =
    elim (dec_lt i n) [
      | yes h ↦ small i h
      | no h ↦ rw (get_or-eq_default x 0 {n = i} (omega arith)) (pow_pos t)
    ]
