-- The search for the lowest that fails: of a list of tests, of the numbers below a count, and of a list of numbers
-- that have to be below a limit (R7, and the lowest places in the table of R143).
-- Assumes nothing.
use Rattle.std.specs.Prelude.{Bool, List, [], ◌∷◌, map, ℕ, suc, ltb}
use Rattle.lists.specs.Pick.{pick}
use Rattle.lists.specs.Tab.{tab}

-- This is the lowest place of a list of tests whose test fails, and the list's length where there is none.
unfoldable pub first_failing : List Bool → ℕ
first_failing [] = 0
first_failing (t ∷ ts) = pick t (suc (first_failing ts)) 0

-- This is the lowest number below n whose test fails, and n where there is none.
unfoldable pub first_bad : (n : ℕ) (test : ℕ → Bool) → ℕ
first_bad n test = first_failing (tab n test)

-- This is the lowest place whose number is n or more, and the list's length where there is none.
unfoldable pub first_beyond : (limit : ℕ) (list : List ℕ) → ℕ
first_beyond n list = first_failing (map (λ x. ltb x n) list)
