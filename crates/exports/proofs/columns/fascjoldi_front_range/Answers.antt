-- `fascjoldi_front_range` gives and leaves what `range_or` does.
-- Assumes nothing.
use borrow.Author.Rules.{rules}
use Rattle.exports.proofs.FileHanded.{range_on}
use Rattle.exports.proofs.columns.fascjoldi_front_range.Goals as goal

pub returns : goal.returns
returns c = search (rules, range_on)
