-- Written by tools/sizes from the text of size 64: edit that one, and run tools/sizes.
-- `replay::t32::drawer::fill` is safe and ends. What holds from turn to turn is that the list keeps its length.
-- Assumes nothing.
use Rattle.std.proofs.Common.{◌≡◌, length}
use Rattle.replay.proofs.t32.drawer.fill.Given as goal

abbrev pub invariant-loop-i : goal.invariant-loop-i
invariant-loop-i l = length l.out ≡ length l.initial.out
