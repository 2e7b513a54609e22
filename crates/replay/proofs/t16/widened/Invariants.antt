-- Written by tools/sizes from the text of size 64: edit that one, and run tools/sizes.
-- `replay::t16::widened` meets its contract. The loop's invariant: the first i numbers are written.
-- Assumes nothing.
use Rattle.std.proofs.Common.{◌≡◌, length, get_or}
use Rattle.lists.proofs.Tabs.{Written}
use Rattle.replay.proofs.t16.widened.Given as goal

abbrev pub invariant-loop-i : goal.invariant-loop-i
invariant-loop-i l =
    (length l.initial.y ≡ 4096) × Written 0 l.i (λ k. get_or l.x k 0) l.initial.y l.y
