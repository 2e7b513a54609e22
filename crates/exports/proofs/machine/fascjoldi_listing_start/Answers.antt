-- `fascjoldi_listing_start` gives and leaves what `start` does.
-- Assumes nothing.
use Rattle.exports.proofs.MachineHanded.{turn_on}
use borrow.Author.Rules.{rules}
use Rattle.exports.proofs.machine.fascjoldi_listing_start.Goals as goal

pub returns : goal.returns
returns c = search (rules, turn_on)
