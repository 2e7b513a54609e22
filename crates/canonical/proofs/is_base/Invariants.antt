-- `canonical::is_base` meets its contract: every word of the base that the loop has passed is the number of its lane.
-- Assumes nothing.
use mathlib.Core.Path.{◌≡◌}
use Prim.Native.Nat.{ℕ, ◌*◌, ◌<◌}
use lib.ListN.{get_or}
use Rattle.little.specs.Little.{little}
use Rattle.canonical.proofs.is_base.Given as goal

abbrev pub invariant-loop-l : goal.invariant-loop-l
invariant-loop-l l = (k : ℕ) → k < l.l → little l.body (k * 8) 8 ≡ get_or l.block k 0
