-- `deltas::delta` meets its contract: each refusal by its test, and the walk gives the block.
-- Assumes nothing.
use Rattle.std.proofs.Common.{refl}
use Rattle.places.proofs.Answers.{done}
use Rattle.places.proofs.Elements.{numbers-length}
use Rattle.deltas.specs.Calls.{delta_leaves}
use Rattle.deltas.proofs.Answers.{tested_input, tested_output, tested_base, tested_delta}
use Rattle.deltas.proofs.delta.Goals as goal

pub returns-then-input-ne1024 : goal.returns-then-input-ne1024
unfolding delta_leaves
returns-then-input-ne1024 g c =
    let m = g.met.E.Element in
    let args = c.args in
    rw (tested_input g.E.Element.numbers (numbers-length m.one_by_one) g.row.T m.side_by_side args.input.now args.base.now args.output.now c.if-input-ne1024.true)
    record { value = refl; output_after = refl }

pub returns-then-output-ne1024 : goal.returns-then-output-ne1024
unfolding delta_leaves
returns-then-output-ne1024 g c =
    let m = g.met.E.Element in
    let args = c.args in
    rw (tested_output g.E.Element.numbers (numbers-length m.one_by_one) g.row.T m.side_by_side
    args.input.now args.base.now args.output.now c.if-input-ne1024.false c.if-output-ne1024.true)
    record { value = refl; output_after = refl }

pub returns-then-base : goal.returns-then-base
unfolding delta_leaves
returns-then-base g c =
    let m = g.met.E.Element in
    let args = c.args in
    rw (tested_base g.E.Element.numbers (numbers-length m.one_by_one) g.row.T m.side_by_side
    args.input.now args.base.now args.output.now c.if-input-ne1024.false c.if-output-ne1024.false c.if-base.true)
    record { value = refl; output_after = refl }

pub returns : goal.returns
unfolding delta_leaves
returns g c =
    let m = g.met.E.Element in
    let args = c.args in
    let good = tested_delta g.E.Element.numbers (numbers-length m.one_by_one) g.row.T m.side_by_side
    args.input.now args.base.now args.output.now c.if-input-ne1024.false c.if-output-ne1024.false c.if-base.false in
    let both = done _ _ _ _ good c.differences.ensures in record { value = both.0; output_after = both.1 }
