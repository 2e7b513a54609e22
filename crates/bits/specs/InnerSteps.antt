-- What the private steps of the two calls give, which no public contract names: the bytes of a block, eight of them
-- gathered, the exchange of bits under a mask, the 8 by 8 step, and the walks over sixteen words.
-- Assumes nothing.
use Rattle.std.specs.Prelude.{List, ℕ, ◌+◌, ◌-◌, ◌*◌, ◌/◌, ◌%◌, ◌^◌, get_or}
use Rattle.lists.specs.Numbers.{number, digit}
use Rattle.lists.specs.Tab.{tab}
use Rattle.places.specs.Places.{order}
use Rattle.places.specs.Sizes.{lanes}
use Rattle.bits.specs.Bits.{bit_of}

-- This is byte i of the number x, the lowest being byte 0.
abbrev pub byte_of : (x i : ℕ) → ℕ
byte_of x i = digit 8 x i

-- A block has 128 bytes, of which this is byte n.
unfoldable pub byte_at : (b : List ℕ) (n : ℕ) → ℕ
byte_at b n = byte_of (get_or b (n / 8) 0) (n % 8)

-- These are the 128 bytes of a block.
unfoldable pub bytes_of : List ℕ → List ℕ
bytes_of b = tab 128 (byte_at b)

-- These are the eight bytes from `start` on that stand `step` apart, as one number.
unfoldable pub gather_of : (bytes : List ℕ) (start step : ℕ) → ℕ
gather_of bytes start step = number 8 (λ i. get_or bytes (start + i * step) 0) 8

-- The exchange under the mask m takes bit p from k places above where the mask has bit p, from k places below where the
-- mask has the bit there, and else from p itself.
unfoldable pub crossed : (m k p : ℕ) → ℕ
crossed m k p = p + bit_of m p * k - bit_of (m * 2 ^ k) p * k

-- So the exchange gives this.
unfoldable pub exchange_of : (x m k : ℕ) → ℕ
exchange_of x m k = number 1 (λ p. bit_of x (crossed m k p)) 64

-- The 8 by 8 step moves bit j of byte i to bit i of byte j: bit p of the result is bit p / 8 of byte p mod 8.
unfoldable pub turn_of : ℕ → ℕ
turn_of x = number 1 (λ p. bit_of x (p % 8 * 8 + p / 8)) 64

-- A walk gathers sixteen words from the bytes of a block, word k from `start k` on.
unfoldable pub gathers_of : (start : ℕ → ℕ) (step : ℕ) (b : List ℕ) → List ℕ
gathers_of start step b = tab 16 (λ k. gather_of (bytes_of b) (start k) step)

-- This walk also turns each of them.
unfoldable pub turns_of : (start : ℕ → ℕ) (step : ℕ) (b : List ℕ) → List ℕ
turns_of start step b = tab 16 (λ k. turn_of (gather_of (bytes_of b) (start k) step))

-- The transpose for size t first gathers group g: one byte of the words of eight lanes. With e = g mod (LANES / 8)
-- these are the lanes from 8·e on, whose words begin at byte e·t, and the byte is number order[(g − e) / 2] of each
-- word.
unfoldable pub group_start : (t g : ℕ) → ℕ
group_start t g = g % (lanes t / 8) * t + order ((g - g % (lanes t / 8)) / 2)

-- The groups are laid out by a walk in rounds of d words, which goes on by `near` bytes from word to word and by `far`
-- from round to round.
unfoldable pub round_start : (d near far w : ℕ) → ℕ
round_start d near far w = w % d * near + w / d * far

-- So byte i of group g becomes byte 16·i + g: word w gathers byte w / 2 of eight groups.
abbrev pub scatter_start : ℕ → ℕ
scatter_start = round_start 2 64 1

-- The untranspose first gathers the bytes that belong to byte g mod 8 of the words of eight lanes, those from 8·(g / 8)
-- on.
unfoldable pub unscatter_start : ℕ → ℕ
unscatter_start g = order (g % 8) * 2 + g / 8

-- Then word w, which is lane w, gathers byte w mod 8 of eight groups.
abbrev pub ungroup_start : ℕ → ℕ
ungroup_start = round_start 8 1 64
