-- Written by tools/sizes from the text of size 64: edit that one, and run tools/sizes.
-- `replay::t8::drawer::read` is safe and ends: the part that is lent is within the list.
-- Assumes nothing.
use Rattle.std.proofs.Common.{sym, arith, length-take-le}
use Rattle.replay.proofs.t8.drawer.read.Goals as goal

pub slice_bounds-fill-end-2 : goal.slice_bounds-fill-end-2
slice_bounds-fill-end-2 c = sym (length-take-le _ _ (omega arith))
