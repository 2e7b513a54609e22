-- `fascjoldi_trickle_ask` gives and leaves what `ask` does.
-- Assumes nothing.
use borrow.Author.Rules.{rules}
use Rattle.exports.proofs.ChunksHanded.{ask_on}
use Rattle.exports.proofs.chunks.fascjoldi_trickle_ask.Goals as goal

pub returns : goal.returns
returns c = search (rules, ask_on)
