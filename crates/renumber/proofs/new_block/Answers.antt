-- `renumber::new_block` meets its contract: the block is laid down, and where nothing of it changes it is the new one.
-- Assumes nothing.
use mathlib.Core.Path.{◌≡◌, sym, ap, ◌∙◌}
use native.Mathlib.Omega.{arith}
use Rattle.lists.specs.Numbers.{Elements}
use Rattle.files.specs.Files.{block_in}
use Rattle.files.proofs.Ranges.{file-runs}
use Rattle.writer.proofs.FileRows.{few, runs_laid}
use Rattle.renumber.specs.InnerBlocks.{new_block}
use Rattle.renumber.proofs.Blocks.{unchanged}
use Rattle.renumber.proofs.new_block.Goals as goal
use Rattle.renumber.proofs.new_block.Goals.{After-block_from}

laid : (c : After-block_from) → c.block_from.new.output ≡ block_in c.args.file.now c.args.i
laid c =
    let l = c.args.file.now in
    let bytes : Elements 8 l = λ k. omega (arith, c.type_inv.file k) in
    runs_laid l (file-runs l c.requires.file_taken) bytes c.args.i c.requires.i_bound c.args.block.now c.requires.counts_len.1 c.requires.from_value c.block_from.ensures.output_after

pub offset_bounds-counts-i : goal.offset_bounds-counts-i
offset_bounds-counts-i c = omega (arith, few c.args.file.now c.requires.file_taken, c.requires.i_bound)

pub bounds-counts-i : goal.bounds-counts-i
bounds-counts-i c =
    omega (arith, few c.args.file.now c.requires.file_taken, c.requires.i_bound, c.requires.counts_len.0)

pub returns-then-counts-i-eq0 : goal.returns-then-counts-i-eq0
returns-then-counts-i-eq0 c =
    let args = c.args in
    laid (goal.at.returns-then-counts-i-eq0 c).After-block_from
    ∙ unchanged args.old.now args.new.now (block_in args.file.now args.i) (sym c.requires.i_value ∙ c.if-counts-i-eq0.true)

pub replace_all-requires : goal.replace_all-requires
replace_all-requires c = record { rising = c.requires.rising; len = c.requires.len }

pub returns : goal.returns
returns c =
    let args = c.args in
    c.replace_all.ensures.block_after ∙ ap (new_block args.old.now args.new.now) (laid (goal.at.returns c).After-block_from)
