-- The laws behind the loops that make a number of its bits, the lowest first, over the element size.
-- Assumes nothing.
use mathlib.Core.List.{List}
use mathlib.Core.Path.{◌≡◌, sym, ap, ap₂, ◌∙◌, subst}
use Prim.Native.Nat.{ℕ, ◌+◌, ◌*◌, ◌/◌, ◌%◌, ◌^◌, ◌≤◌, ◌<◌}
use native.Mathlib.Nat.{one-mul, mul_comm, mod-lt, mod-eq_of_lt, div-lt_iff_lt-mul}
use native.Mathlib.Numerals.{add-one}
use native.Mathlib.Omega.{arith}
use lib.Arith.{digits_lt}
use Rattle.std.proofs.lemmas.Nat.{mul-add-lt}
use lib.Pow.{pow_mono, shl_exact}
use Rattle.lists.specs.Numbers.{number, digit, plus}
use Rattle.lists.proofs.Digits.{number_lt, digit_lt}
use Rattle.plain.specs.Plain.{bit, bit_at, bit_of}

-- bit i, by a shift
pub bit_shift : (m i : ℕ) → m / 2 ^ i % 2 ≡ bit m i
unfolding digit
bit_shift m i = ap (λ k. m / 2 ^ k % 2) (sym (one-mul i))

-- a bit that is shifted to place i of a number of t bits loses nothing
pub at-bit : (t x i : ℕ) → x < 2 → i < t → x * 2 ^ i % 2 ^ t ≡ x * 2 ^ i
at-bit t x i h b = shl_exact 1 i t h (omega arith)

-- What one turn adds: v is made of the first n bits f 0, .., f (n - 1), and x is the next.
module _ {f : ℕ → ℕ} (bits : (k : ℕ) → f k < 2) {n v x y : ℕ} (made : v ≡ number 1 f n) (next : x ≡ f n) (put : y ≡ x * 2 ^ n) where
  pub bit_more : v + y ≡ number 1 f (n + 1)
  unfolding number
  bit_more = rw add-one (ap₂ (λ a b. a + b) made (put ∙ ap₂ (λ a k. a * 2 ^ k) next (sym (one-mul n))))

  pub bit-fits : (t : ℕ) → n < t → v + y < 2 ^ t
  bit-fits t h =
      let small : number 1 f (n + 1) < 2 ^ (n + 1) = subst (λ k. number 1 f (n + 1) < 2 ^ k) (one-mul (n + 1)) (number_lt 1 f (n + 1) (λ k _. bits k)) in
      let room : 2 ^ (n + 1) ≤ 2 ^ t = pow_mono {i = n + 1} {j = t} (omega arith) in
      omega (arith, bit_more)

  pub bit-added : (t : ℕ) → n < t → plus t v y ≡ number 1 f (n + 1)
  unfolding plus
  bit-added t h = mod-eq_of_lt (bit-fits t h) ∙ bit_more

-- each bit is 0 or 1
pub bit-small : (m i : ℕ) → bit m i < 2
bit-small m i = digit_lt 1 m i

pub bit_at_small : (t w : ℕ) (packed : List ℕ) (l r b : ℕ) → bit_at t w packed l r b < 2
unfolding bit_at
bit_at_small t w packed l r b = bit-small _ _

pub bit_of_small : (t w : ℕ) (values : List ℕ) (l k j : ℕ) → bit_of t w values l k j < 2
unfolding bit_of
bit_of_small t w values l k j = bit-small _ _

-- Bit b of row r is one of the lane's t · w bits,
pub lane-bit : {t w r b : ℕ} → r < t → b < w → r * w + b < t * w
lane-bit hr hb = digits_lt hr hb

-- in one of its w words,
pub lane-word : {t w r b : ℕ} → 0 < t → r < t → b < w → (r * w + b) / t < w
lane-word {t} {w} {r} {b} some hr hb = (div-lt_iff_lt-mul some).1 (subst (λ n. r * w + b < n) (mul_comm t w) (lane-bit hr hb))

-- each of which is one of the packed words,
pub word-place : {n w k l : ℕ} → k < w → l < n → n * k + l < n * w
word-place {n} {w} {k} {l} hk hl = rw (mul_comm n k) (mul-add-lt k n l w hk hl)

-- and so is bit j of word k, which stands in one of the t rows.
pub word-bit : {t w k j : ℕ} → k < w → j < t → ((k * t + j) / w < t) × ((k * t + j) % w < w)
word-bit {t} {w} {k} {j} hk hj =
    let some : 0 < w = omega arith in
    let within : k * t + j < t * w = subst (λ n. k * t + j < n) (mul_comm w t) (digits_lt hk hj) in
    ((div-lt_iff_lt-mul some).1 within, mod-lt (k * t + j) some)
