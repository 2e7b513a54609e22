-- `fascjoldi_body_block_out` gives and leaves what `held_block` does.
-- Assumes nothing.
use borrow.Author.Rules.{rules}
use Rattle.exports.proofs.FileHanded.{file_on_lem}
use Rattle.exports.proofs.columns.fascjoldi_body_block_out.Goals as goal

pub returns : goal.returns
returns c = search (rules, file_on_lem)
