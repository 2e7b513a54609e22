-- `fascjoldi_body_next` gives and leaves what `behind` does.
-- Assumes nothing.
use borrow.Author.Rules.{rules}
use Rattle.exports.proofs.FileHanded.{body_on}
use Rattle.exports.proofs.columns.fascjoldi_body_next.Goals as goal

pub returns : goal.returns
returns c = search (rules, body_on)
