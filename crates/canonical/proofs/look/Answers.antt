-- `canonical::look` meets its contract: the block is laid down, and what is measured of it is held to its entry.
-- Assumes nothing.
use mathlib.Core.Bool.{true}
use mathlib.Core.Path.{◌≡◌, sym, ap, ap₂, ◌∙◌}
use native.Mathlib.Omega.{arith}
use lib.Dec.{eqb}
use borrow.Author.Tests.{eq-eqb}
use Rattle.lists.specs.Numbers.{Elements}
use Rattle.lists.specs.Pick.{pick, both}
use Rattle.contents.specs.declared.Range.{Range}
use Rattle.contents.specs.Contents.{edition, range_of}
use Rattle.bodies.specs.Ranges.{true_range, is_range}
use Rattle.candidates.specs.Calls.{measured_of}
use Rattle.candidates.specs.Candidates.{chosen, differences}
use Rattle.candidates.specs.Widths.{width_of}
use Rattle.candidates.proofs.Calls.{measured_there}
use Rattle.bodywise.proofs.Told.{range-read}
use Rattle.files.specs.Files.{block_in, has_true_range}
use Rattle.files.proofs.Ranges.{contents-right}
use Rattle.writer.proofs.FileRows.{runs_block, runs_laid}
use Rattle.canonical.proofs.look.Goals as goal
use Rattle.canonical.proofs.look.Goals.{After-block_from, After-measure-m}

elements : (c : After-block_from) → Elements 8 c.args.file.now
elements c k = omega (arith, c.type_inv.file k)

block_is : (c : After-block_from) → c.block_from.new.output ≡ block_in c.args.file.now c.args.i
block_is c =
    runs_laid c.args.file.now c.requires.file_value (elements c) c.args.i c.requires.i_bound c.args.block.now c.requires.block_len c.requires.at_value c.block_from.ensures.output_after

measured-is : (c : After-measure-m)
    → let block = block_in c.args.file.now c.args.i in
    c.measure-m.result ≡ record { entry = (chosen block).entry; range = true_range block; steps = width_of (differences block) }
measured-is c =
    let l = c.args.file.now in
    let i = c.args.i in
    c.measure-m.ensures
    ∙ ap measured_of (let it : c.block_from.new.output ≡ block_in c.args.file.now c.args.i = runs_laid c.args.file.now c.requires.file_value (let it : Elements 8 c.args.file.now = λ k. omega (arith, c.type_inv.file k) in it) c.args.i c.requires.i_bound c.args.block.now c.requires.block_len c.requires.at_value c.block_from.ensures.output_after in it)
    ∙ measured_there (block_in l i) (runs_block l c.requires.file_value (let it : Elements 8 c.args.file.now = λ k. omega (arith, c.type_inv.file k) in it) i c.requires.i_bound).0

pub is_ours-requires : goal.is_ours-requires
is_ours-requires c =
    record { file_value = c.requires.file_value; i_bound = c.requires.i_bound; at_value = c.requires.at_value; value = ap (λ it. it.entry) (measured-is (goal.at.is_ours-requires c).After-measure-m); block_value = block_is (goal.at.is_ours-requires c).After-block_from }

pub returns : goal.returns
unfolding has_true_range
returns c =
    let l = c.args.file.now in
    let i = c.args.i in
    record {
      ranged_value = c.same_range.ensures
          ∙ ap₂ (λ (a : Range) (b : Range). both (eqb a.smallest b.smallest) (eqb a.largest b.largest)) (c.range_or.ensures ∙ range-read l (contents-right l c.requires.file_value) i c.requires.i_bound) (ap (λ it. it.range) (measured-is (goal.at.returns c).After-measure-m))
          ∙ sym (ap (λ t. pick t (is_range (range_of l i) (block_in l i)) true) (eq-eqb (edition l) 2 c.requires.file_value_2));
      ours_value = c.is_ours.ensures;
    }
