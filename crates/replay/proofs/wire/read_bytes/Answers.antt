-- `replay::wire::read_bytes` is safe and ends: the part that is lent is within the buffer.
-- Assumes nothing.
use Rattle.std.proofs.Common.{sym, arith, length-take-le}
use Rattle.replay.proofs.wire.read_bytes.Goals as goal

pub slice_bounds-read_full-end-2 : goal.slice_bounds-read_full-end-2
slice_bounds-read_full-end-2 c = sym (length-take-le _ _ (omega arith))
