-- The four element sizes (R13).
-- Assumes nothing.
use Rattle.std.specs.Prelude.{◌≡◌, ◌⊎◌, ℕ, ◌-◌, ◌/◌, ◌^◌}

-- T, the number of bits of an element, is one of four numbers. This is T of a u8.
abbrev pub t8 : ℕ
t8 = 8

-- This is T of a u16.
abbrev pub t16 : ℕ
t16 = 16

-- This is T of a u32.
abbrev pub t32 : ℕ
t32 = 32

-- This is T of a u64.
abbrev pub t64 : ℕ
t64 = 64

-- This is the largest u64.
abbrev pub largest_u64 : ℕ
largest_u64 = 2 ^ t64 - 1

-- This says of a number t that it is one of the four.
abbrev pub Size : ℕ → Type 0
Size t = (t ≡ t8) ⊎ ((t ≡ t16) ⊎ ((t ≡ t32) ⊎ (t ≡ t64)))

-- LANES is how many values of a block stand side by side: 128, 64, 32 or 16.
abbrev pub lanes : ℕ → ℕ
lanes t = 1024 / t
