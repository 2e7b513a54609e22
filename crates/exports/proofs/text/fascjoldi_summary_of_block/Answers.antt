-- `fascjoldi_summary_of_block` gives and leaves what `of_block` does.
-- Assumes nothing.
use Rattle.exports.proofs.TextHanded.{summary_on}
use borrow.Author.Rules.{rules}
use Rattle.exports.proofs.text.fascjoldi_summary_of_block.Goals as goal

pub returns : goal.returns
returns c = search (rules, summary_on)
