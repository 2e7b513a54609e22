-- `replay::bit_block::bits_at_front` meets its contract. The loop's invariant: the first i numbers are written.
-- Assumes nothing.
use Rattle.std.proofs.Common.{◌≡◌, length, get_or}
use Rattle.lists.proofs.Tabs.{Written}
use Rattle.replay.proofs.bit_block.bits_at_front.Given as goal

abbrev pub invariant-loop-i : goal.invariant-loop-i
invariant-loop-i l =
    (length l.initial.x ≡ 16) × Written 0 l.i (λ k. get_or l.a k 0) l.initial.x l.x
