-- `writer::lay_file` meets its contract: the blocks are laid down behind the first four bytes.
-- Assumes nothing.
use mathlib.Core.List.{◌++◌}
use mathlib.Core.Path.{ap, ◌∙◌}
use native.Mathlib.Omega.{arith}
use Rattle.lists.specs.Tab.{over}
use Rattle.contents.specs.Contents.{entry_size, contents_size}
use Rattle.contents.proofs.Bytes.{head-fits}
use Rattle.writer.specs.Writer.{block_count, entries_for, bodies_for}
use Rattle.writer.proofs.Laying.{length-file, file_laid}
use Rattle.writer.proofs.lay_file.Goals as goal

pub lay_blocks-requires : goal.lay_blocks-requires
lay_blocks-requires c =
    record { values_len_bound = c.requires.values_len_bound; kept_len = c.requires.kept_len; values_in_bounds = omega arith }

pub returns : goal.returns
unfolding contents_size entry_size
returns c =
    let args = c.args in
    let values = args.values.now in
    let old = args.output.now in
    c.lay_blocks.ensures
    ∙ ap (over 4 (entries_for values (block_count values) ++ bodies_for values (block_count values)))
    (c.put_head.ensures ∙ head-fits (block_count values) old (omega (arith, length-file values)))
    ∙ file_laid values old (omega arith)
