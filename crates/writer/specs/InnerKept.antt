-- What is kept of the blocks of a file between measuring and laying them down, and the rooms that the candidates are laid
-- down in. The contracts of private steps name these; no public contract does.
-- Assumes nothing.
use Rattle.std.specs.Prelude.{List, ◌≡◌, ℕ, ◌+◌, ◌*◌, ◌<◌, length, get_or}
use Rattle.lists.specs.Ends.{lowest_of, highest_of}
use Rattle.candidates.specs.Candidates.{differences}
use Rattle.candidates.specs.Widths.{width_of}

-- Of block i three numbers are kept, from place 3·i on: its lowest number, its highest, and the width of its
-- differences.
pub record KeptAt (block kept : List ℕ) (i : ℕ) : Type 0 where
  pub low : get_or kept (i * 3) 0 ≡ lowest_of block
  pub high : get_or kept (i * 3 + 1) 0 ≡ highest_of block
  pub steps : get_or kept (i * 3 + 2) 0 ≡ width_of (differences block)

-- They are kept of the first n blocks.
abbrev pub Kept : (block : ℕ → List ℕ) (kept : List ℕ) (n : ℕ) → Type 0
Kept block kept n = (i : ℕ) → i < n → KeptAt (block i) kept i

-- The rooms are as long as the longest bodies.
abbrev pub Rooms : (plain frame rest : List ℕ) → Type 0
Rooms plain frame rest = (length plain ≡ 1024) × ((length frame ≡ 1024) × (length rest ≡ 1040))
