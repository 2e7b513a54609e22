-- Written by tools/sizes from the text of size 64: edit that one, and run tools/sizes.
-- `replay::t32::narrowed` meets its contract. The loop's invariant: the first i elements are written.
-- Assumes nothing.
use Rattle.std.proofs.Common.{◌≡◌, ◌%◌, ◌^◌, length, get_or}
use Rattle.lists.proofs.Tabs.{Written}
use Rattle.places.specs.Sizes.{t32}
use Rattle.replay.proofs.t32.narrowed.Given as goal

abbrev pub invariant-loop-i : goal.invariant-loop-i
invariant-loop-i l =
    (length l.initial.y ≡ 4096) × Written 0 l.i (λ k. get_or l.x k 0 % 2 ^ t32) l.initial.y l.y
