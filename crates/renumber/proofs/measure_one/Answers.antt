-- `renumber::measure_one` meets its contract: the block is laid down and measured, searched and replaced, and where that
-- changed it it is measured again.
-- Assumes nothing.
use mathlib.Core.Path.{◌≡◌, sym, ap, ap₂, ◌∙◌}
use Prim.Native.Nat.{◌+◌, ◌*◌}
use native.Mathlib.Omega.{arith}
use lib.Dec.{eqb}
use lib.ListN.{length, set}
use Rattle.lists.specs.Numbers.{Elements}
use Rattle.lists.specs.Pick.{both}
use Rattle.bodies.specs.Ranges.{true_range}
use Rattle.candidates.specs.Calls.{measured_of}
use Rattle.candidates.specs.Candidates.{chosen, differences}
use Rattle.candidates.specs.Widths.{width_of}
use Rattle.candidates.proofs.Calls.{measured_there}
use Rattle.files.specs.Files.{block_in}
use Rattle.writer.proofs.FileRows.{runs-few, runs_block, runs_laid}
use Rattle.renumber.specs.InnerBlocks.{new_block, taken_in, changed_in}
use Rattle.renumber.proofs.Blocks.{unchanged}
use Rattle.renumber.proofs.Rows.{block_long}
use Rattle.renumber.proofs.measure_one.Goals as goal
use Rattle.renumber.proofs.measure_one.Goals.{After-block_from, After-measure-m, After-measure_again-after}

elements : (c : After-block_from) → Elements 8 c.args.file.now
elements c k = omega (arith, c.type_inv.file k)

laid : (c : After-block_from) → c.block_from.new.output ≡ block_in c.args.file.now c.args.i
laid c =
    runs_laid c.args.file.now c.requires.file_value (elements c) c.args.i c.requires.i_bound c.args.block.now c.requires.block_len c.requires.from_value c.block_from.ensures.output_after

range-is : (c : After-measure-m) → c.measure-m.result.range ≡ true_range (block_in c.args.file.now c.args.i)
range-is c =
    let l = c.args.file.now in
    let i = c.args.i in
    ap (λ m. m.range) (c.measure-m.ensures ∙ ap measured_of (let it : c.block_from.new.output ≡ block_in c.args.file.now c.args.i = runs_laid c.args.file.now c.requires.file_value (let it : Elements 8 c.args.file.now = λ k. omega (arith, c.type_inv.file k) in it) c.args.i c.requires.i_bound c.args.block.now c.requires.block_len c.requires.from_value c.block_from.ensures.output_after in it) ∙ measured_there (block_in l i) (runs_block l c.requires.file_value (let it : Elements 8 c.args.file.now = λ k. omega (arith, c.type_inv.file k) in it) i c.requires.i_bound).0)

laid-range : (c : After-measure-m) → c.measure-m.result.range ≡ true_range c.block_from.new.output
laid-range c = range-is c ∙ ap true_range (sym (let it : c.block_from.new.output ≡ block_in c.args.file.now c.args.i = runs_laid c.args.file.now c.requires.file_value (let it : Elements 8 c.args.file.now = λ k. omega (arith, c.type_inv.file k) in it) c.args.i c.requires.i_bound c.args.block.now c.requires.block_len c.requires.from_value c.block_from.ensures.output_after in it))

pub is_told-ranged-requires : goal.is_told-ranged-requires
is_told-ranged-requires c =
    record { file_value = c.requires.file_value; i_bound = c.requires.i_bound; range_value = range-is (goal.at.is_told-ranged-requires c).After-measure-m }

pub first_taken-taken-requires : goal.first_taken-taken-requires
first_taken-taken-requires c =
    record { range_value = laid-range (goal.at.first_taken-taken-requires c).After-measure-m; paired = c.requires.paired }

pub replace-changed-requires : goal.replace-changed-requires
replace-changed-requires c =
    record { range_value = laid-range (goal.at.replace-changed-requires c).After-measure-m; rising = c.requires.paired.rising; len = c.requires.paired.new_long }

pub measure_again-after-requires : goal.measure_again-after-requires
measure_again-after-requires c =
    λ none.
    let args = c.args in
    c.measure-m.ensures
    ∙ ap measured_of (unchanged args.old.now args.new.now c.block_from.new.output (sym c.replace-changed.ensures.value ∙ none) ∙ sym c.replace-changed.ensures.block_after)

new_long : (c : After-measure_again-after)
    → let args = c.args in
    length (new_block args.old.now args.new.now (block_in args.file.now args.i)) ≡ 1024
new_long c =
    block_long c.args.old.now c.args.new.now c.args.file.now c.requires.file_value (let it : Elements 8 c.args.file.now = λ k. omega (arith, c.type_inv.file k) in it) c.args.i c.requires.i_bound

new_is : (c : After-measure_again-after)
    → let args = c.args in
    c.replace-changed.new.block ≡ new_block args.old.now args.new.now (block_in args.file.now args.i)
new_is c =
    let args = c.args in
    c.replace-changed.ensures.block_after ∙ ap (new_block args.old.now args.new.now) (let it : c.block_from.new.output ≡ block_in c.args.file.now c.args.i = runs_laid c.args.file.now c.requires.file_value (let it : Elements 8 c.args.file.now = λ k. omega (arith, c.type_inv.file k) in it) c.args.i c.requires.i_bound c.args.block.now c.requires.block_len c.requires.from_value c.block_from.ensures.output_after in it)

after_is : (c : After-measure_again-after)
    → let args = c.args in
    let block = new_block args.old.now args.new.now (block_in args.file.now args.i) in
    c.measure_again-after.result ≡ record { entry = (chosen block).entry; range = true_range block; steps = width_of (differences block) }
after_is c =
    let args = c.args in
    c.measure_again-after.ensures
    ∙ ap measured_of (new_is c)
    ∙ measured_there (new_block args.old.now args.new.now (block_in args.file.now args.i)) (new_long c)

pub keep-requires : goal.keep-requires
keep-requires c =
    record { i_bound = omega (arith, runs-few c.args.file.now c.requires.file_value, c.requires.i_bound); kept_len = c.requires.kept_len.0 }

pub offset_bounds-counts-i : goal.offset_bounds-counts-i
offset_bounds-counts-i c = omega (arith, runs-few c.args.file.now c.requires.file_value, c.requires.i_bound)

pub bounds-counts-i : goal.bounds-counts-i
bounds-counts-i c =
    omega (arith, runs-few c.args.file.now c.requires.file_value, c.requires.i_bound, c.requires.kept_len.1)

pub returns : goal.returns
returns c =
    let args = c.args in
    let i = args.i in
    let old = args.old.now in
    let new = args.new.now in
    let is = laid (goal.at.returns c).After-block_from in
    let taken_is = c.first_taken-taken.ensures ∙ ap (taken_in old new) is in
    let changed-is = c.replace-changed.ensures.value ∙ ap (λ b. length (changed_in old new b)) is in record {
      block_found = record {
        passes = ap₂ (λ a t. both a (eqb t 1024)) c.is_told-ranged.ensures taken_is;
        taken = taken_is;
        size = ap (λ m. m.entry.length) (after_is (goal.at.returns c).After-measure_again-after);
        changed = changed-is;
      };
      kept_after = c.keep.ensures
          ∙ ap (λ m. set (set (set args.kept.now (i * 3) m.range.smallest) (i * 3 + 1) m.range.largest) (i * 3 + 2) m.steps) (after_is (goal.at.returns c).After-measure_again-after);
      counts_after = ap (set args.counts.now i) changed-is;
    }
