-- `search::is_as_asked` meets its contract: what is asked of the body that begins at `at` is asked of block i.
-- Assumes nothing.
use Rattle.std.proofs.Common.{length, sym, ap, ◌∙◌}
use Rattle.files.proofs.Froms.{from_block, good_from-is, true_in_is}
use Rattle.search.specs.InnerBlocks.{asked}
use Rattle.search.proofs.Blocks.{in_long}
use Rattle.search.proofs.is_as_asked.Goals as goal

pub returns-then-ranges : goal.returns-then-ranges
returns-then-ranges c =
    let l = c.args.file.now in
    let i = c.args.i in
    let block = c.args.block.now in
    let taken = c.if-ranges.true in
    let given = c.requires.file_value taken in
    record {
      value = c.is_true_in.ensures.value
          ∙ true_in_is l c.requires.contents_taken i c.requires.i_bound c.args.at c.requires.at_value block c.requires.block_len given.0 given.1
          ∙ sym (ap (λ t. asked l t i) taken);
      block_len_2 = ap length (c.is_true_in.ensures.block_after ∙ from_block l c.requires.contents_taken i c.requires.i_bound c.args.at c.requires.at_value block c.requires.block_len given.1) ∙ in_long l 0 0 i;
    }

pub returns : goal.returns
returns c =
    let l = c.args.file.now in
    let i = c.args.i in record {
      value = c.is_good_from.ensures
          ∙ good_from-is l c.requires.contents_taken i c.requires.i_bound c.args.at c.requires.at_value
          ∙ sym (ap (λ t. asked l t i) c.if-ranges.false);
      block_len_2 = c.requires.block_len;
    }
