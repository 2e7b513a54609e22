-- Whether two blocks are the same. A private step names this; no public contract does.
-- Assumes nothing.
use Rattle.std.specs.Prelude.{Bool, List, ℕ, eqb, length}
use Rattle.compare.specs.Changes.{differing}

-- This test says that two blocks differ at no place.
abbrev pub same_of : (left right : List ℕ) → Bool
same_of left right = eqb (length (differing left right)) 0
