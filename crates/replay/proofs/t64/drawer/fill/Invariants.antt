-- `replay::t64::drawer::fill` is safe and ends. What holds from turn to turn is that the list keeps its length.
-- Assumes nothing.
use Rattle.std.proofs.Common.{◌≡◌, length}
use Rattle.replay.proofs.t64.drawer.fill.Given as goal

abbrev pub invariant-loop-i : goal.invariant-loop-i
invariant-loop-i l = length l.out ≡ length l.initial.out
