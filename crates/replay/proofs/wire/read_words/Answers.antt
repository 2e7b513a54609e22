-- `replay::wire::read_words` is safe and ends: the part that is lent is within the list.
-- Assumes nothing.
use Rattle.std.proofs.Common.{sym, arith, length-take-le}
use Rattle.replay.proofs.wire.read_words.Goals as goal

pub slice_bounds-read_words-end-2 : goal.slice_bounds-read_words-end-2
slice_bounds-read_words-end-2 c = sym (length-take-le _ _ (omega arith))
