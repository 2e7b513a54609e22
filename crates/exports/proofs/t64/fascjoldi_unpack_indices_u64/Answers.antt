-- `fascjoldi_unpack_indices_u64` gives and leaves what `unpack_indices` does.
-- Assumes nothing.
use borrow.Author.Rules.{rules}
use Rattle.exports.proofs.Handed.{list_on}
use Rattle.exports.proofs.t64.fascjoldi_unpack_indices_u64.Goals as goal

pub returns : goal.returns
returns c = search (rules, list_on)
