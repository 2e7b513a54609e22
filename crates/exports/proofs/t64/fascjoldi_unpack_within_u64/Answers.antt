-- `fascjoldi_unpack_within_u64` gives and leaves what `unpack_within` does.
-- Assumes nothing.
use borrow.Author.Rules.{rules}
use Rattle.exports.proofs.Handed.{front_on}
use Rattle.exports.proofs.t64.fascjoldi_unpack_within_u64.Goals as goal

pub returns : goal.returns
returns c = search (rules, front_on)
