-- Written by tools/sizes from the text of size 64: edit that one, and run tools/sizes.
-- `fascjoldi_unpack_indices_u32` gives and leaves what `unpack_indices` does.
-- Assumes nothing.
use borrow.Author.Rules.{rules}
use Rattle.exports.proofs.Handed.{list_on}
use Rattle.exports.proofs.t32.fascjoldi_unpack_indices_u32.Goals as goal

pub returns : goal.returns
returns c = search (rules, list_on)
