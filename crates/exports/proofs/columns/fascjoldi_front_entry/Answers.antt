-- `fascjoldi_front_entry` gives and leaves what `entry_or` does.
-- Assumes nothing.
use borrow.Author.Rules.{rules}
use Rattle.exports.proofs.FileHanded.{entry_on}
use Rattle.exports.proofs.columns.fascjoldi_front_entry.Goals as goal

pub returns : goal.returns
returns c = search (rules, entry_on)
