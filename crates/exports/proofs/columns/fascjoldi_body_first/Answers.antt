-- `fascjoldi_body_first` gives and leaves what `first` does.
-- Assumes nothing.
use borrow.Author.Rules.{rules}
use Rattle.exports.proofs.FileHanded.{body_on}
use Rattle.exports.proofs.columns.fascjoldi_body_first.Goals as goal

pub returns : goal.returns
returns c = search (rules, body_on)
