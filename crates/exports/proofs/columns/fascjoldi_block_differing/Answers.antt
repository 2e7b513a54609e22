-- `fascjoldi_block_differing` gives and leaves what `differing` does.
-- Assumes nothing.
use borrow.Author.Rules.{rules}
use Rattle.exports.proofs.FileHanded.{compared_on}
use Rattle.exports.proofs.columns.fascjoldi_block_differing.Goals as goal

pub returns : goal.returns
returns c = search (rules, compared_on)
