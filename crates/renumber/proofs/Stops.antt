-- Where the searches of the lists stop at the latest.
-- Assumes nothing.
use mathlib.Core.List.{List}
use Prim.Native.Nat.{ℕ, ◌≤◌}
use lib.ListN.{length}
use Rattle.lists.proofs.Search.{first_le}
use Rattle.renumber.specs.Pairs.{rises_at, unrising_at, is_ordered_at, disordered_at, is_alone, twice_at}

pub unrising_le : (old : List ℕ) → unrising_at old ≤ length old
unfolding unrising_at
unrising_le old = first_le (length old) (rises_at old)

pub disordered_le : (new order : List ℕ) → disordered_at new order ≤ length order
unfolding disordered_at
disordered_le new order = first_le (length order) (is_ordered_at new order)

pub twice_le : (new : List ℕ) → twice_at new ≤ length new
unfolding twice_at
twice_le new = first_le (length new) (is_alone new)
