-- The rule of the walk that transpose and untranspose are made of. The contracts of its private steps name it; no
-- public contract does.
-- Assumes nothing.
use Rattle.std.specs.Prelude.{ℕ, ◌+◌, ◌*◌, ◌/◌, ◌%◌}
use Rattle.places.specs.Places.{order}

-- The walk reads in `parts` parts, each in eight runs of `count` values. At `parts` 8 and `count` 16 its
-- rule is the source, and at 16 and 8 the target.
unfoldable pub walk : (parts count i : ℕ) → ℕ
walk parts count i = (order ((i / count) % 8) * parts + i / count / 8) + (i % count) * (8 * parts)
