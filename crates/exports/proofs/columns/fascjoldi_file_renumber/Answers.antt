-- `fascjoldi_file_renumber` gives and leaves what `renumber` does.
-- Assumes nothing.
use borrow.Author.Rules.{rules}
use Rattle.exports.proofs.FileHanded.{renumbered_on}
use Rattle.exports.proofs.columns.fascjoldi_file_renumber.Goals as goal

pub returns : goal.returns
returns c = search (rules, renumbered_on)
