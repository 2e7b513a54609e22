-- The numbers that pass a test, and those that fail one, rising: the blocks that a search opens, the rows that it
-- lists, the places at which two blocks differ.
-- Assumes nothing.
use Rattle.std.specs.Prelude.{Bool, List, [], ◌∷◌, ◌++◌, ℕ, zero, suc, ◌+◌}
use Rattle.lists.specs.Pick.{pick, fails}

-- These are the numbers from s on, below s + n, that pass the test, in rising order.
unfoldable pub passing : (s n : ℕ) (test : ℕ → Bool) → List ℕ
passing s zero test = []
passing s (suc n) test = passing s n test ++ pick (test (s + n)) ((s + n) ∷ []) []

-- These are those that fail it.
unfoldable pub failing_from : (s n : ℕ) (test : ℕ → Bool) → List ℕ
failing_from s n test = passing s n (λ i. fails (test i))
