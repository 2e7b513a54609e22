-- Written by tools/sizes from the text of size 64: edit that one, and run tools/sizes.
-- `fascjoldi_undelta_u8` gives and leaves what `undelta` does.
-- Assumes nothing.
use borrow.Author.Rules.{rules}
use Rattle.exports.proofs.Handed.{handed_on}
use Rattle.exports.proofs.t8.fascjoldi_undelta_u8.Goals as goal

pub returns : goal.returns
returns c = search (rules, handed_on)
