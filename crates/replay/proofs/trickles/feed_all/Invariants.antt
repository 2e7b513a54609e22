-- `replay::trickles::feed_all` is safe and ends. What holds from turn to turn is that the chunk begins within the
-- bytes.
-- Assumes nothing.
use Rattle.std.proofs.Common.{◌≤◌, length}
use Rattle.replay.proofs.trickles.feed_all.Given as goal

abbrev pub invariant-loop-i : goal.invariant-loop-i
invariant-loop-i l = (l.at ≤ length l.bytes)
