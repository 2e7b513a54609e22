-- How many bytes an element has.
-- Assumes nothing.
use Rattle.std.specs.Prelude.{ℕ, Bool, ◌==◌}
use Rattle.lists.specs.Pick.{either}

-- An element has one, two, four or eight bytes.
abbrev pub is_size : ℕ → Bool
is_size size = either (either (size == 1) (size == 2)) (either (size == 4) (size == 8))
