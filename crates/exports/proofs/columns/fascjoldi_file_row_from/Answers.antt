-- `fascjoldi_file_row_from` gives and leaves what `row_from` does.
-- Assumes nothing.
use borrow.Author.Rules.{rules}
use Rattle.exports.proofs.FileHanded.{row_on}
use Rattle.exports.proofs.columns.fascjoldi_file_row_from.Goals as goal

pub returns : goal.returns
returns c = search (rules, row_on)
