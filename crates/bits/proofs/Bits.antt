-- What the two bit transposes promise (R63, R64): where each bit goes, that this fixes the block, and that each undoes
-- the other. And the 8 by 8 step (R65).
-- Assumes nothing.
use mathlib.Core.Path.{◌≡◌, refl, sym, ap, ap₂, ◌∙◌, subst}
use mathlib.Core.List.{List}
use Prim.Native.Nat.{ℕ, ◌+◌, ◌*◌, ◌/◌, ◌%◌, ◌^◌, ◌<◌}
use native.Mathlib.Nat.{mul_comm, div-add-mod', div-lt_iff_lt-mul, mod-lt}
use native.Mathlib.Omega.{arith}
use lib.Arith.{digits_lt, digits_div, digits_mod}
use Rattle.lists.specs.Numbers.{digit}
use Rattle.lists.proofs.Digits.{number_lt}
use Rattle.places.specs.Places.{place, lane, row}
use Rattle.places.specs.Sizes.{t64, Size, lanes}
use Rattle.places.proofs.Places.{size64, size_some, size-lanes, place-row-lane, lane-lt, row_lt, lane_place, row-place, place-lt}
use Rattle.bits.specs.Bits.{BitBlock, bit, goes_to, comes_from, transpose_bits_of, untranspose_bits_of, bit_of}
use Rattle.bits.specs.InnerSteps.{turn_of, byte_of}
use Rattle.bits.proofs.Blocks.{block_bit-lt, bit_block, block_block, is_block}
use Rattle.bits.proofs.Numbers.{bit-lt, bit_mod, bit-shr, is_number, bit-of-number}

-- Where a bit goes to and where it comes from are inverse to each other on 0 to 1023.
module _ {t : ℕ} (s : Size t) where
  module _ (p : ℕ) (h : p < 1024) where
    lane_of : p / t < lanes t
    lane_of = (div-lt_iff_lt-mul (size_some s)).1 (subst (λ n. p < n) (sym (mul_comm (lanes t) t ∙ size-lanes s)) h)

    pub goes_lt : goes_to t p < 1024
    unfolding goes_to
    goes_lt = place-lt s (p % t) (p / t) (mod-lt p (size_some s)) lane_of

    pub comes_goes : comes_from t (goes_to t p) ≡ p
    unfolding goes_to comes_from
    comes_goes =
        let hr : p % t < t = mod-lt p (size_some s) in
        ap₂ (λ l r. l * t + r) (lane_place s (p % t) (p / t) hr lane_of) (row-place s (p % t) (p / t) hr lane_of) ∙ div-add-mod' p t

    pub comes-lt : comes_from t p < 1024
    unfolding comes_from
    comes-lt = subst (λ n. lane t p * t + row t p < n) (mul_comm (lanes t) t ∙ size-lanes s) (digits_lt (lane-lt s p h) (row_lt s p h))

    pub goes_comes : goes_to t (comes_from t p) ≡ p
    unfolding goes_to comes_from
    goes_comes = rw (digits_div (lane t p) (row_lt s p h), digits_mod (lane t p) (row_lt s p h)) (place-row-lane s p h)

  -- Input bit l·t + r goes to the place of row r in lane l.
  pub goes_place : (l r : ℕ) → r < t → goes_to t (l * t + r) ≡ place r l
  unfolding goes_to
  goes_place l r h = rw (digits_div l h, digits_mod l h)

-- The transpose gives a block, and its bit q is the input bit that comes there.
pub transpose-bit : (t : ℕ) (b : List ℕ) (q : ℕ) → q < 1024 → bit (transpose_bits_of t b) q ≡ bit b (comes_from t q)
unfolding transpose_bits_of
transpose-bit t b = bit_block (λ q. bit b (comes_from t q)) (λ q _. block_bit-lt b (comes_from t q))

pub transpose_block : (t : ℕ) (b : List ℕ) → BitBlock (transpose_bits_of t b)
unfolding transpose_bits_of
transpose_block t b = block_block (λ q. bit b (comes_from t q)) (λ q _. block_bit-lt b (comes_from t q))

module _ {t : ℕ} (s : Size t) (b : List ℕ) where
  -- It puts input bit p where p goes to.
  pub transpose_puts : (p : ℕ) → p < 1024 → bit (transpose_bits_of t b) (goes_to t p) ≡ bit b p
  transpose_puts p h = transpose-bit t b (goes_to t p) (goes_lt s p h) ∙ ap (bit b) (comes_goes s p h)

  -- It moves input bit l·t + r to output bit order[r / 8] · 16 + (r mod 8) · 128 + l, the place of row r in lane l.
  pub transpose-moves : (l r : ℕ) → l < lanes t → r < t → bit (transpose_bits_of t b) (place r l) ≡ bit b (l * t + r)
  transpose-moves l r hl hr =
      ap (bit (transpose_bits_of t b)) (sym (goes_place s l r hr))
      ∙ transpose_puts (l * t + r) (subst (λ n. l * t + r < n) (mul_comm (lanes t) t ∙ size-lanes s) (digits_lt hl hr))

  -- No other block has the bits there.
  pub transpose_only : (x : List ℕ) → BitBlock x
      → ((l r : ℕ) → l < lanes t → r < t → bit x (place r l) ≡ bit b (l * t + r)) → x ≡ transpose_bits_of t b
  unfolding transpose_bits_of comes_from
  transpose_only x whole moves =
      is_block x (λ q. bit b (comes_from t q)) whole
      (λ q h. ap (bit x) (sym (place-row-lane s q h)) ∙ moves (lane t q) (row t q) (lane-lt s q h) (row_lt s q h))

-- No two blocks have one transpose.
pub transpose-one : {t : ℕ} → Size t → (b c : List ℕ) → BitBlock b → BitBlock c → transpose_bits_of t b ≡ transpose_bits_of t c → b ≡ c
transpose-one {t} s b c hb hc e =
    is_block b (bit c) hb
    (λ p h. sym (transpose_puts s b p h) ∙ ap (λ x. bit x (goes_to t p)) e ∙ transpose_puts s c p h)
    ∙ sym (is_block c (bit c) hc (λ p h. refl))

-- The untranspose gives a block, and its bit p is the input bit at the place where the transpose puts bit p.
pub untranspose-bit : (b : List ℕ) (p : ℕ) → p < 1024 → bit (untranspose_bits_of b) p ≡ bit b (goes_to t64 p)
unfolding untranspose_bits_of
untranspose-bit b = bit_block (λ p. bit b (goes_to t64 p)) (λ p _. block_bit-lt b (goes_to t64 p))

pub untranspose_block : (b : List ℕ) → BitBlock (untranspose_bits_of b)
unfolding untranspose_bits_of
untranspose_block b = block_block (λ p. bit b (goes_to t64 p)) (λ p _. block_bit-lt b (goes_to t64 p))

-- It moves input bit order[r / 8] · 16 + (r mod 8) · 128 + l to output bit l·64 + r.
pub untranspose-moves : (b : List ℕ) (l r : ℕ) → l < lanes t64 → r < t64 → bit (untranspose_bits_of b) (l * t64 + r) ≡ bit b (place r l)
untranspose-moves b l r hl hr = untranspose-bit b (l * t64 + r) (omega arith) ∙ ap (bit b) (goes_place size64 l r hr)

-- No other block has the bits there.
pub untranspose_only : (b x : List ℕ) → BitBlock x
    → ((l r : ℕ) → l < lanes t64 → r < t64 → bit x (l * t64 + r) ≡ bit b (place r l)) → x ≡ untranspose_bits_of b
unfolding untranspose_bits_of goes_to
untranspose_only b x whole moves =
    is_block x (λ p. bit b (goes_to t64 p)) whole
    (λ p h. ap (bit x) (sym (div-add-mod' p t64)) ∙ moves (p / t64) (p % t64) (omega arith) (omega arith))

-- Each undoes the other, for every block.
pub untranspose-transpose : (b : List ℕ) → BitBlock b → untranspose_bits_of (transpose_bits_of t64 b) ≡ b
unfolding untranspose_bits_of
untranspose-transpose b whole = sym (is_block b _ whole (λ p h. sym (transpose_puts size64 b p h)))

pub transpose-untranspose : (b : List ℕ) → BitBlock b → transpose_bits_of t64 (untranspose_bits_of b) ≡ b
unfolding transpose_bits_of
transpose-untranspose b whole =
    sym (is_block b _ whole
    (λ q h. sym (untranspose-bit b (comes_from t64 q) (comes-lt size64 q h) ∙ ap (bit b) (goes_comes size64 q h))))

-- The 8 by 8 step, for every number: bit j of byte i moves to bit i of byte j.
byte-bits : (x i j : ℕ) → j < 8 → bit_of (byte_of x i) j ≡ bit_of x (i * 8 + j)
unfolding digit
byte-bits x i j h = bit_mod (x / 2 ^ (8 * i)) 8 j h ∙ bit-shr x (8 * i) j ∙ ap (bit_of x) (omega arith)

pub turn_moves : (x i j : ℕ) → i < 8 → j < 8 → bit_of (byte_of (turn_of x) j) i ≡ bit_of (byte_of x i) j
unfolding turn_of
turn_moves x i j hi hj =
    byte-bits (turn_of x) j i hi
    ∙ bit-of-number (λ p. bit_of x (p % 8 * 8 + p / 8)) 64 (λ p _. bit-lt x (p % 8 * 8 + p / 8)) (j * 8 + i) (digits_lt hj hi)
    ∙ ap₂ (λ m n. bit_of x (m * 8 + n)) (digits_mod j hi) (digits_div j hi)
    ∙ sym (byte-bits x i j hj)

-- No other number below 2^64 has the bits there.
pub turn_lt : (x : ℕ) → turn_of x < 2 ^ 64
unfolding turn_of
turn_lt x = number_lt 1 (λ p. bit_of x (p % 8 * 8 + p / 8)) 64 (λ p _. bit-lt x (p % 8 * 8 + p / 8))

pub turn_only : (x y : ℕ) → y < 2 ^ 64 → ((i j : ℕ) → i < 8 → j < 8 → bit_of (byte_of y j) i ≡ bit_of (byte_of x i) j) → y ≡ turn_of x
unfolding turn_of
turn_only x y h moves =
    is_number y 64 (λ p. bit_of x (p % 8 * 8 + p / 8)) h
    (λ p l.
    let i : p % 8 < 8 = omega arith in
    let j : p / 8 < 8 = omega arith in
    ap (bit_of y) (sym (div-add-mod' p 8))
    ∙ sym (byte-bits y (p / 8) (p % 8) i)
    ∙ moves (p % 8) (p / 8) i j
    ∙ byte-bits x (p % 8) (p / 8) j)
