-- `fascjoldi_decimal_parse` gives and leaves what `parse` does.
-- Assumes nothing.
use Rattle.exports.proofs.TextHanded.{parsed_on}
use borrow.Author.Rules.{rules}
use Rattle.exports.proofs.text.fascjoldi_decimal_parse.Goals as goal

pub returns : goal.returns
returns c = search (rules, parsed_on)
