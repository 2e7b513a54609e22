-- A whole number and its digits of b bits, sums and differences modulo 2^t, and lists of numbers of t bits.
-- Assumes nothing.
use Rattle.std.specs.Prelude.{List, ℕ, zero, suc, ◌+◌, ◌-◌, ◌*◌, ◌/◌, ◌%◌, ◌^◌, ◌<◌, get_or}

-- This is the number whose n digits of b bits are f 0, f 1, .., the lowest first: the sum of f k times 2^(b·k).
unfoldable pub number : (b : ℕ) (f : ℕ → ℕ) (n : ℕ) → ℕ
number b f zero = 0
number b f (suc n) = number b f n + f n * 2 ^ (b * n)

-- This is digit i of m, with b bits to a digit.
unfoldable pub digit : (b m i : ℕ) → ℕ
digit b m i = m / 2 ^ (b * i) % 2 ^ b

-- This is a plus b modulo 2^t.
unfoldable pub plus : (t a b : ℕ) → ℕ
plus t a b = (a + b) % 2 ^ t

-- This is a minus b modulo 2^t, for a and b below 2^t, as every element is.
unfoldable pub minus : (t a b : ℕ) → ℕ
minus t a b = (a + (2 ^ t - b)) % 2 ^ t

-- Every number of the list is one of t bits, as every element is. The laws ask for this where they need it; of a list
-- that is handed to a call the prover knows it by its type.
abbrev pub Elements : (t : ℕ) (list : List ℕ) → Type 0
Elements t list = (i : ℕ) → get_or list i 0 < 2 ^ t
