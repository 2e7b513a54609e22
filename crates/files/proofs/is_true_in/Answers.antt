-- `files::is_true_in` meets its contract: the block is laid down over what was lent, and its range held to the entry's.
-- Assumes nothing.
use Rattle.std.proofs.Common.{◌∙◌, ap₂}
use Rattle.bodies.specs.Ranges.{is_range}
use Rattle.files.proofs.is_true_in.Goals as goal

pub returns : goal.returns
returns c =
    record { value = c.is_range.ensures ∙ ap₂ is_range c.range_or.ensures c.block_from.ensures.output_after; block_after = c.block_from.ensures.output_after }
