-- Written by tools/sizes from the text of size 64: edit that one, and run tools/sizes.
-- `fascjoldi_delta_u16` gives and leaves what `delta` does.
-- Assumes nothing.
use borrow.Author.Rules.{rules}
use Rattle.exports.proofs.Handed.{handed_on}
use Rattle.exports.proofs.t16.fascjoldi_delta_u16.Goals as goal

pub returns : goal.returns
returns c = search (rules, handed_on)
