-- `candidates::width_of` meets its contract: the width and the leading zeros make 64.
-- Assumes nothing.
use Rattle.std.proofs.Common.{arith}
use lib.Count.{leading_le}
use Rattle.candidates.proofs.Widths.{bits_leading}
use Rattle.candidates.proofs.width_of.Goals as goal

pub overflow_sub-result : goal.overflow_sub-result
overflow_sub-result c = leading_le 64 c.args.m

pub returns : goal.returns
returns c = (bits_leading c.args.m (omega arith), omega arith)
