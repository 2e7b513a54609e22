-- A block and its bits: the block that is made of given bits has them, and is the only one. And what the walks give,
-- bit by bit.
-- Assumes nothing.
use mathlib.Core.Path.{◌≡◌, sym, ap, ap₂, ◌∙◌}
use mathlib.Core.List.{List}
use Prim.Native.Nat.{ℕ, ◌+◌, ◌*◌, ◌/◌, ◌%◌, ◌^◌, ◌<◌}
use native.Mathlib.Nat.{div-add-mod', mod-lt}
use native.Mathlib.Omega.{arith}
use lib.Arith.{digits_lt, digits_div, digits_mod}
use lib.ListN.{get_or}
use Rattle.lists.specs.Numbers.{number, digit}
use Rattle.lists.proofs.Tabs.{get_d_tab, length-tab, tab_ext, is-tab}
use Rattle.lists.proofs.Digits.{number_lt, number_ext, digit_lt}
use Rattle.bits.specs.Bits.{BitBlock, bit, from_bits, bit_of}
use Rattle.bits.specs.InnerSteps.{byte_at, bytes_of, gather_of, turn_of, gathers_of, turns_of}
use Rattle.bits.proofs.Gathers.{strided-lt}
use Rattle.bits.proofs.Numbers.{bit-lt, bit_mod, bit-shr, bit-number, bit-of-number, is_number}

-- A bit of a block is 0 or 1.
pub block_bit-lt : (b : List ℕ) (p : ℕ) → bit b p < 2
unfolding bit
block_bit-lt b p = bit-lt (get_or b (p / 64) 0) (p % 64)

-- Bit k·64 + i of a block is bit i of number k.
in_word : (k i : ℕ) → i < 64 → ((k * 64 + i) / 64 ≡ k) × ((k * 64 + i) % 64 ≡ i) × ((k * 64 + i) % 8 ≡ i % 8)
in_word k i h = (omega arith, omega arith, omega arith)

pub bit_at : (b : List ℕ) (k i : ℕ) → i < 64 → bit b (k * 64 + i) ≡ bit_of (get_or b k 0) i
unfolding bit
bit_at b k i h =
    let at = in_word k i h in
    rw (at.0, at.1)

-- The block that is made of the bits f has these bits.
pub bit_block : (f : ℕ → ℕ) → ((q : ℕ) → q < 1024 → f q < 2) → (q : ℕ) → q < 1024 → bit (from_bits f) q ≡ f q
unfolding bit from_bits
bit_block f small q h =
    ap (λ x. bit_of x (q % 64)) (get_d_tab 16 (λ k. number 1 (λ i. f (k * 64 + i)) 64) (q / 64) 0 (omega arith))
    ∙ bit-of-number (λ i. f (q / 64 * 64 + i)) 64 (λ i l. small (q / 64 * 64 + i) (omega arith)) (q % 64) (omega arith)
    ∙ ap f (div-add-mod' q 64)

-- Its numbers are sixteen, and are below 2^64.
pub block_block : (f : ℕ → ℕ) → ((q : ℕ) → q < 1024 → f q < 2) → BitBlock (from_bits f)
unfolding from_bits
block_block f small =
    record {
      sixteen = length-tab 16 _;
      small = λ k h. rw (get_d_tab 16 (λ k. number 1 (λ i. f (k * 64 + i)) 64) k 0 h) (number_lt 1 (λ i. f (k * 64 + i)) 64 (λ i l. small (k * 64 + i) (omega arith)));
    }

-- Two rules that agree on the 1,024 bits give one block.
pub block_ext : (f g : ℕ → ℕ) → ((q : ℕ) → q < 1024 → f q ≡ g q) → from_bits f ≡ from_bits g
unfolding from_bits
block_ext f g e =
    tab_ext 16 _ _ 0 (λ k h. number_ext 1 (λ i. f (k * 64 + i)) (λ i. g (k * 64 + i)) 64 (λ i l. e (k * 64 + i) (omega arith)))

-- A block is the one that its bits make, whatever rule gives them.
pub is_block : (b : List ℕ) (f : ℕ → ℕ) → BitBlock b → ((q : ℕ) → q < 1024 → bit b q ≡ f q) → b ≡ from_bits f
unfolding from_bits
is_block b f whole e =
    is-tab b 16 _ 0 whole.sixteen
    (λ k h. is_number (get_or b k 0) 64 (λ i. f (k * 64 + i)) (whole.small k h) (λ i l. sym (bit_at b k i l) ∙ e (k * 64 + i) (omega arith)))

-- Bit j of byte n of a block is bit n·8 + j, and a byte is below 256.
pub byte-lt : (b : List ℕ) (n : ℕ) → byte_at b n < 256
unfolding byte_at
byte-lt b n = digit_lt 8 (get_or b (n / 8) 0) (n % 8)

pub byte-bit : (b : List ℕ) (n j : ℕ) → j < 8 → bit_of (byte_at b n) j ≡ bit b (n * 8 + j)
unfolding byte_at digit bit
byte-bit b n j h =
    let q : n / 8 ≡ (n * 8 + j) / 64 = omega arith in
    let r : 8 * (n % 8) + j ≡ (n * 8 + j) % 64 = omega arith in
    bit_mod (get_or b (n / 8) 0 / 2 ^ (8 * (n % 8))) 8 j h
    ∙ bit-shr (get_or b (n / 8) 0) (8 * (n % 8)) j
    ∙ ap₂ (λ k i. bit_of (get_or b k 0) i) q r

module _ (b : List ℕ) (start step : ℕ) (room : start + 7 * step < 128) where
  gathered_byte : (i : ℕ) → i < 8 → get_or (bytes_of b) (start + i * step) 0 ≡ byte_at b (start + i * step)
  unfolding bytes_of
  gathered_byte i h = get_d_tab 128 (byte_at b) (start + i * step) 0 (strided-lt start step i 128 h room)

  gathered_lt : (i : ℕ) → i < 8 → get_or (bytes_of b) (start + i * step) 0 < 2 ^ 8
  gathered_lt i h = rw (gathered_byte i h) (byte-lt b (start + i * step))

  gather-lt : gather_of (bytes_of b) start step < 2 ^ 64
  unfolding gather_of
  gather-lt = number_lt 8 (λ i. get_or (bytes_of b) (start + i * step) 0) 8 gathered_lt

  -- Bit j of the number that is gathered is bit j mod 8 of its byte j / 8.
  gather-bit : (j : ℕ) → j < 64 → bit_of (gather_of (bytes_of b) start step) j ≡ bit b ((start + j / 8 * step) * 8 + j % 8)
  unfolding gather_of
  gather-bit j h =
      ap (bit_of (number 8 (λ i. get_or (bytes_of b) (start + i * step) 0) 8)) (omega arith)
      ∙ bit-number 8 (λ i. get_or (bytes_of b) (start + i * step) 0) 8 gathered_lt (j / 8) (j % 8) (omega arith) (omega arith)
      ∙ ap (λ x. bit_of x (j % 8)) (gathered_byte (j / 8) (omega arith))
      ∙ byte-bit b (start + j / 8 * step) (j % 8) (omega arith)

-- A walk takes bit q from here, without and with the 8 by 8 step.
abbrev pub gather_from : (ℕ → ℕ) → ℕ → ℕ → ℕ
gather_from start step q = (start (q / 64) + q % 64 / 8 * step) * 8 + q % 8

abbrev pub turn_from : (ℕ → ℕ) → ℕ → ℕ → ℕ
turn_from start step q = (start (q / 64) + q % 8 * step) * 8 + q % 64 / 8

-- The 8 by 8 step takes bit i from bit i / 8 of byte i mod 8.
turned : (i : ℕ) → i < 64 → (i % 8 * 8 + i / 8 < 64) × ((i % 8 * 8 + i / 8) / 8 ≡ i % 8) × ((i % 8 * 8 + i / 8) % 8 ≡ i / 8)
turned i h =
    let c : i / 8 < 8 = omega arith in
    (digits_lt (mod-lt i (omega arith)) c, digits_div (i % 8) c, digits_mod (i % 8) c)

module _ (b : List ℕ) (start : ℕ → ℕ) (step : ℕ) (room : (k : ℕ) → k < 16 → start k + 7 * step < 128) where
  pub gathers_bits : gathers_of start step b ≡ from_bits (λ q. bit b (gather_from start step q))
  unfolding gathers_of from_bits
  gathers_bits =
      tab_ext 16 _ _ 0
      (λ k h.
      is_number (gather_of (bytes_of b) (start k) step) 64 (λ i. bit b (gather_from start step (k * 64 + i))) (gather-lt b (start k) step (room k h))
      (λ i l.
      let at = in_word k i l in
      rw (at.0, at.1, at.2) (gather-bit b (start k) step (room k h) i l)))

  pub turns-bits : turns_of start step b ≡ from_bits (λ q. bit b (turn_from start step q))
  unfolding turns_of turn_of from_bits
  turns-bits =
      tab_ext 16 _ _ 0
      (λ k h.
      number_ext 1 _ (λ i. bit b (turn_from start step (k * 64 + i))) 64
      (λ i l.
      let at = in_word k i l in
      let to = turned i l in
      rw (at.0, at.1, at.2)
      (gather-bit b (start k) step (room k h) (i % 8 * 8 + i / 8) to.0
      ∙ ap₂ (λ n c. bit b ((start k + n * step) * 8 + c)) to.1 to.2)))

-- A walk with the 8 by 8 step and then one without it are one move of bits.
pub two_walks : (b : List ℕ) (start₁ : ℕ → ℕ) (step₁ : ℕ) (start₂ : ℕ → ℕ) (step₂ : ℕ) (f : ℕ → ℕ)
    → ((k : ℕ) → k < 16 → start₁ k + 7 * step₁ < 128)
    → ((k : ℕ) → k < 16 → start₂ k + 7 * step₂ < 128)
    → ((q : ℕ) → q < 1024 → gather_from start₂ step₂ q < 1024)
    → ((q : ℕ) → q < 1024 → turn_from start₁ step₁ (gather_from start₂ step₂ q) ≡ f q)
    → gathers_of start₂ step₂ (turns_of start₁ step₁ b) ≡ from_bits (λ q. bit b (f q))
two_walks b start₁ step₁ start₂ step₂ f room₁ room₂ inside e =
    gathers_bits (turns_of start₁ step₁ b) start₂ step₂ room₂
    ∙ block_ext _ _
    (λ q h.
    ap (λ x. bit x (gather_from start₂ step₂ q)) (turns-bits b start₁ step₁ room₁)
    ∙ bit_block (λ p. bit b (turn_from start₁ step₁ p)) (λ p _. block_bit-lt b (turn_from start₁ step₁ p)) (gather_from start₂ step₂ q) (inside q h)
    ∙ ap (bit b) (e q h))
