-- `search::count_from` meets its contract: the block is laid down, and its values are counted.
-- Assumes nothing.
use Rattle.std.proofs.Common.{◌*◌, length, replicate, sym, refl, ap, ◌∙◌}
use Rattle.files.specs.Files.{block_in}
use Rattle.files.proofs.Froms.{from_block}
use Rattle.search.specs.Steps.{found_in}
use Rattle.search.proofs.Blocks.{found_shift}
use Rattle.search.proofs.count_from.Goals as goal

pub returns : goal.returns
returns c =
    let l = c.args.file.now in
    let i = c.args.i in
    let low = c.args.low in
    let high = c.args.high in
    c.count_block.ensures
    ∙ ap (λ b. length (found_in b 0 low high))
    (c.block_from.ensures.output_after ∙ from_block l c.requires.contents_taken i c.requires.i_bound c.args.at c.requires.at_value (replicate 1024 0) refl c.requires.i_value)
    ∙ sym (found_shift (block_in l i) (i * 1024) low high)
