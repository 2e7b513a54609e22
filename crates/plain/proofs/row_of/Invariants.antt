-- `plain::row_of` meets its contract. The loop's invariant: no row beyond the one that is looked for is passed.
-- Assumes nothing.
use Prim.Native.Nat.{◌-◌, ◌≤◌}
use Rattle.places.specs.Places as Places
use Rattle.plain.proofs.row_of.Given as goal

abbrev pub invariant-loop-row : goal.invariant-loop-row
invariant-loop-row l = l.row ≤ Places.row l.t l.p

abbrev pub decreases-loop-row : goal.decreases-loop-row
decreases-loop-row l = Places.row l.t l.p - l.row
