-- `renumber::lay_one` meets its contract: by what was kept, the body is laid down from its place on, and then the entry and
-- its range in its own.
-- Assumes nothing.
use mathlib.Core.Path.{◌≡◌, ◌∙◌}
use Prim.Native.Nat.{◌+◌, ◌*◌}
use native.Mathlib.Omega.{arith}
use lib.ListN.{get_or}
use Rattle.lists.specs.Numbers.{Elements}
use Rattle.places.specs.Sizes.{t64}
use Rattle.contents.specs.declared.Range.{Range}
use Rattle.contents.specs.Contents.{entry_size, contents_size}
use Rattle.bodies.specs.Ranges.{true_range}
use Rattle.writer.proofs.Keeping.{kept_written}
use Rattle.renumber.proofs.lay_one.Goals as goal

pub returns : goal.returns
unfolding contents_size entry_size
returns c =
    let block = c.args.block.now in
    let kept = c.args.kept.now in
    let i = c.args.i in
    let fits : Elements t64 block = λ k. omega (arith, c.type_inv.block k) in
    let range : Range = record { smallest = get_or kept (i * 3) 0; largest = get_or kept (i * 3 + 1) 0 } in
    let range-is : range ≡ true_range block = λ j. record { smallest = c.requires.kept_at.low j; largest = c.requires.kept_at.high j } in
    let one = kept_written block c.requires.block_len fits c.args.at c.args.output.now c.requires.i_bound_2.1 i range (get_or kept (i * 3 + 2) 0)
    c.args.plain.now c.args.frame.now c.args.rest.now _ c.lay_by.result c.entry_with-e.result
    c.requires.i_bound_2.0 range-is c.requires.kept_at.steps c.requires.rooms c.lay_by.ensures.value c.lay_by.ensures.output_after c.entry_with-e.ensures in
    record { value = one.0; output_after = c.put_entry.ensures ∙ one.1 }
