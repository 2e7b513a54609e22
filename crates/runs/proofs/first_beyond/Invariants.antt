-- `runs::first_beyond` meets its contract. The loop's invariant: every place passed holds a number below the limit.
-- Assumes nothing.
use Prim.Native.Nat.{ℕ, ◌-◌, ◌≤◌, ◌<◌}
use lib.ListN.{length, get_or}
use Rattle.runs.proofs.first_beyond.Given as goal

abbrev pub invariant-loop-place : goal.invariant-loop-place
invariant-loop-place l = (l.place ≤ length l.indices) × ((k : ℕ) → k < l.place → get_or l.indices k 0 < l.limit)

abbrev pub decreases-loop-place : goal.decreases-loop-place
decreases-loop-place l = length l.indices - l.place
