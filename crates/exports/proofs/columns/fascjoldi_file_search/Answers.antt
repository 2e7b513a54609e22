-- `fascjoldi_file_search` gives and leaves what `search` does.
-- Assumes nothing.
use borrow.Author.Rules.{rules}
use Rattle.exports.proofs.FileHanded.{found_on}
use Rattle.exports.proofs.columns.fascjoldi_file_search.Goals as goal

pub returns : goal.returns
returns c = search (rules, found_on)
