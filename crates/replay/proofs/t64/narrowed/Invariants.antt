-- `replay::t64::narrowed` meets its contract. The loop's invariant: the first i elements are written.
-- Assumes nothing.
use Rattle.std.proofs.Common.{◌≡◌, ◌%◌, ◌^◌, length, get_or}
use Rattle.lists.proofs.Tabs.{Written}
use Rattle.places.specs.Sizes.{t64}
use Rattle.replay.proofs.t64.narrowed.Given as goal

abbrev pub invariant-loop-i : goal.invariant-loop-i
invariant-loop-i l =
    (length l.initial.y ≡ 4096) × Written 0 l.i (λ k. get_or l.x k 0 % 2 ^ t64) l.initial.y l.y
