-- `fascjoldi_file_write` gives and leaves what `write` does.
-- Assumes nothing.
use borrow.Author.Rules.{rules}
use Rattle.exports.proofs.FileHanded.{written_on}
use Rattle.exports.proofs.columns.fascjoldi_file_write.Goals as goal

pub returns : goal.returns
returns c = search (rules, written_on)
