-- The bits of a block of sixteen u64 numbers, and where the two bit transposes move each of them (R62 to R64).
-- Assumes nothing.
use Rattle.std.specs.Prelude.{List, ◌≡◌, ℕ, ◌+◌, ◌*◌, ◌/◌, ◌%◌, ◌^◌, ◌<◌, length, get_or}
use Rattle.lists.specs.Numbers.{number, digit}
use Rattle.lists.specs.Tab.{tab}
use Rattle.places.specs.Places.{place, lane, row}
use Rattle.places.specs.Sizes.{t64}

-- A bit block is sixteen numbers below 2^64. An array [u64; 16] is always one.
pub record BitBlock (b : List ℕ) : Type 0 where
  pub sixteen : length b ≡ 16
  pub small : (k : ℕ) → k < 16 → get_or b k 0 < 2 ^ 64

-- This is bit i of the number x, the lowest being bit 0.
abbrev pub bit_of : (x i : ℕ) → ℕ
bit_of x i = digit 1 x i

-- Bit p of a bit block is bit p mod 64 of number p / 64, lowest first: so its bytes stand with the lowest in front.
unfoldable pub bit : (b : List ℕ) (p : ℕ) → ℕ
bit b p = bit_of (get_or b (p / 64) 0) (p % 64)

-- This is the block whose bit p is f p, for each p below 1,024, where f gives only 0 and 1. That there is no other such
-- block is a law.
unfoldable pub from_bits : (ℕ → ℕ) → List ℕ
from_bits f = tab 16 (λ k. number 1 (λ i. f (k * 64 + i)) 64)

-- The transpose for size t moves input bit l·t + r to the place of row r in lane l. Of input bit p, r is p mod t and l
-- is p / t.
unfoldable pub goes_to : (t p : ℕ) → ℕ
goes_to t p = place (p % t) (p / t)

-- So output bit q comes from input bit l·t + r, where l and r are the lane and the row of q. That it comes from no
-- other is a law.
unfoldable pub comes_from : (t q : ℕ) → ℕ
comes_from t q = lane t q * t + row t q

-- This is what transpose_bits gives for size t.
unfoldable pub transpose_bits_of : (t : ℕ) (b : List ℕ) → List ℕ
transpose_bits_of t b = from_bits (λ q. bit b (comes_from t q))

-- This is what untranspose_bits gives, for size 64 only: output bit p is the input bit at the place where the transpose
-- puts bit p.
unfoldable pub untranspose_bits_of : List ℕ → List ℕ
untranspose_bits_of b = from_bits (λ p. bit b (goes_to t64 p))
