-- `fascjoldi_file_row_at` gives and leaves what `row_at` does.
-- Assumes nothing.
use borrow.Author.Rules.{rules}
use Rattle.exports.proofs.FileHanded.{row_on}
use Rattle.exports.proofs.columns.fascjoldi_file_row_at.Goals as goal

pub returns : goal.returns
returns c = search (rules, row_on)
