-- `access::indices::first_beyond` meets its contract. The loop's invariant: every place passed holds an index below 1,024.
-- Assumes nothing.
use Prim.Native.Nat.{ℕ, ◌-◌, ◌≤◌, ◌<◌}
use lib.ListN.{length, get_or}
use Rattle.access.proofs.indices.first_beyond.Given as goal

abbrev pub invariant-loop-i : goal.invariant-loop-i
invariant-loop-i l = (l.i ≤ length l.indices) × ((k : ℕ) → k < l.i → get_or l.indices k 0 < 1024)

abbrev pub decreases-loop-i : goal.decreases-loop-i
decreases-loop-i l = length l.indices - l.i
