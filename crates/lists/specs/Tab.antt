-- Lists that are given by a rule for their entries. Every block that a call leaves behind is said in this form, or as a
-- list written over another, so it is one list and no other.
-- Assumes nothing.
use Rattle.std.specs.Prelude.{List, [], ◌∷◌, ◌++◌, ℕ, zero, suc, ◌+◌, length, take, drop}

-- This list is f s, f (s + 1), .., and has n entries.
unfoldable pub tab_from : {A : Type 0} → (s n : ℕ) → (ℕ → A) → List A
tab_from s zero f = []
tab_from s (suc n) f = f s ∷ tab_from (suc s) n f

-- This list is f 0, f 1, .., f (n - 1).
unfoldable pub tab : {A : Type 0} → ℕ → (ℕ → A) → List A
tab n f = tab_from 0 n f

-- This is the list l with x written over it from place p on, for p within the list or at its end. Where x is longer
-- than the rest, the list grows.
unfoldable pub over : {A : Type 0} → (p : ℕ) (x l : List A) → List A
over p x l = take p l ++ x ++ drop (p + length x) l
