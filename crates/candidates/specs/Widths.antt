-- How many bits a number needs, and how many the numbers of a list need. A width w holds the numbers below 2^w. By the
-- least width that holds them the writer takes the narrowest candidate of each kind (R100).
-- Assumes nothing.
use Rattle.std.specs.Prelude.{ℕ, ◌^◌, List, nat_le}
use Rattle.lists.specs.Ends.{highest_of}
use Rattle.lists.specs.Search.{first_bad}

-- This is the least width that holds m: the lowest width w at which 2^w is not at most m, so that m is below 2^w. It is
-- 64 where no lower one holds m, and 64 bits hold every number that the calls take.
unfoldable pub bits : (m : ℕ) → ℕ
bits m = first_bad 64 (λ w. nat_le (2 ^ w) m)

-- The least width that holds every number of a list is the one that holds the highest.
unfoldable pub width_of : (numbers : List ℕ) → ℕ
width_of numbers = bits (highest_of numbers)
