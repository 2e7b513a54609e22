-- `fascjoldi_trickle_start` gives and leaves what `start` does.
-- Assumes nothing.
use borrow.Author.Rules.{rules}
use Rattle.exports.proofs.ChunksHanded.{start_on}
use Rattle.exports.proofs.chunks.fascjoldi_trickle_start.Goals as goal

pub returns : goal.returns
returns c = search (rules, start_on)
