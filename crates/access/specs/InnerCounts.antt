-- The first words of a list of lookups. The contract of a private step names it; no public contract does.
-- Assumes nothing.
use Rattle.std.specs.Prelude.{ℕ, eqb}
use Rattle.lists.specs.Pick.{pick}

-- A lookup reads no word at width 0, and else a first one. So these are the first words of n lookups.
abbrev pub firsts : (w n : ℕ) → ℕ
firsts w n = pick (eqb w 0) 0 n
