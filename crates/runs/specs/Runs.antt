-- The runs of a block of 1,024 values, as decode has them (R58): a dictionary of values, and an index into it for each
-- place.
-- Assumes nothing.
use Rattle.std.specs.Prelude.{List, ℕ, get_or}
use Rattle.lists.specs.Tab.{tab}

-- Decode puts dictionary[index] at each place.
unfoldable pub decode_of : (dictionary indices : List ℕ) → List ℕ
decode_of dictionary indices = tab 1024 (λ i. get_or dictionary (get_or indices i 0) 0)
