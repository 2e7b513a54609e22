-- `fascjoldi_pack_u64` gives and leaves what `pack` does.
-- Assumes nothing.
use borrow.Author.Rules.{rules}
use Rattle.exports.proofs.Handed.{handed_on}
use Rattle.exports.proofs.t64.fascjoldi_pack_u64.Goals as goal

pub returns : goal.returns
returns c = search (rules, handed_on)
