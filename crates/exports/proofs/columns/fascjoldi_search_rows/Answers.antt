-- `fascjoldi_search_rows` gives and leaves what `rows_in` does.
-- Assumes nothing.
use borrow.Author.Rules.{rules}
use Rattle.exports.proofs.FileHanded.{found_on}
use Rattle.exports.proofs.columns.fascjoldi_search_rows.Goals as goal

pub returns : goal.returns
returns c = search (rules, found_on)
