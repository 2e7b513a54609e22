-- `fascjoldi_front_check` gives and leaves what `check` does.
-- Assumes nothing.
use borrow.Author.Rules.{rules}
use Rattle.exports.proofs.FileHanded.{file_on_lem}
use Rattle.exports.proofs.columns.fascjoldi_front_check.Goals as goal

pub returns : goal.returns
returns c = search (rules, file_on_lem)
