-- Written by tools/sizes from the text of size 64: edit that one, and run tools/sizes.
-- `replay::t16::within` meets its contract: a count that is at most the length counts elements.
-- Assumes nothing.
use Rattle.std.proofs.Common.{rules}
use Rattle.io.proofs.Counting.{prefix_len_of_le}
use Rattle.replay.proofs.t16.within.Goals as goal

pub returns-then-n-x : goal.returns-then-n-x
returns-then-n-x c =
    record { prefix_len = prefix_len_of_le c.args.n c.args.x.now c.if-n-x.true; value = search rules }
