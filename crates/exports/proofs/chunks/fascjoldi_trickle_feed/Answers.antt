-- `fascjoldi_trickle_feed` gives and leaves what `feed` does.
-- Assumes nothing.
use borrow.Author.Rules.{rules}
use Rattle.exports.proofs.ChunksHanded.{fed_on}
use Rattle.exports.proofs.chunks.fascjoldi_trickle_feed.Goals as goal

pub returns : goal.returns
returns c = search (rules, fed_on)
