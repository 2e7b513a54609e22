-- A list that is cut into parts of one length, and lists that stand one after another.
-- Assumes nothing.
use Rattle.std.specs.Prelude.{List, [], ◌++◌, ℕ, zero, suc, ◌*◌, take, drop}

-- This is part b of the list, where each part has n entries.
unfoldable pub cut : {A : Type 0} → (n : ℕ) (l : List A) (b : ℕ) → List A
cut n l b = take n (drop (b * n) l)

-- These are the lists f 0, f 1, .., f (n - 1), one after another.
unfoldable pub joined : {A : Type 0} → (n : ℕ) (f : ℕ → List A) → List A
joined zero f = []
joined (suc n) f = joined n f ++ f n
