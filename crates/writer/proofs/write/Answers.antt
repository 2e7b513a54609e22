-- `writer::write` meets its contract: by the tests, and then the file is laid down by what was kept of its blocks.
-- Assumes nothing.
use mathlib.Core.Path.{ap, ◌∙◌}
use native.Mathlib.Omega.{arith}
use borrow.Author.Rules.{rules}
use Rattle.std.specs.Prelude.{Ok}
use Rattle.writer.proofs.Calls.{refused_blocks, refused_many, refused-room, written}
use borrow.Author.Rules.{rules}
use Rattle.writer.proofs.write.Goals as goal

pub returns-then-values-ne0 : goal.returns-then-values-ne0
returns-then-values-ne0 c =
    let args = c.args in
    let both = refused_blocks args.values.now args.output.now c.if-values-ne0.true in record { value = both.0; output_after = both.1 }

pub returns-then-values-gt262144 : goal.returns-then-values-gt262144
returns-then-values-gt262144 c =
    let args = c.args in
    let both = refused_many args.values.now args.output.now c.if-values-ne0.false c.if-values-gt262144.true in record { value = both.0; output_after = both.1 }

pub returns-then-output-size : goal.returns-then-output-size
returns-then-output-size c =
    let args = c.args in
    let both = refused-room args.values.now args.output.now c.if-values-ne0.false c.if-values-gt262144.false (omega (arith, c.measure_blocks-size.ensures.value)) in record { value = both.0; output_after = both.1 }

pub lay_file-requires : goal.lay_file-requires
lay_file-requires c =
    record { values_len_bound = omega arith; kept_len = (search rules, c.measure_blocks-size.ensures.kept); values_in_bounds = omega (arith, c.measure_blocks-size.ensures.value) }

pub returns : goal.returns
returns c =
    let args = c.args in
    let given = written args.values.now args.output.now c.if-values-ne0.false c.if-values-gt262144.false (omega (arith, c.measure_blocks-size.ensures.value)) in
    record { value = ap Ok c.measure_blocks-size.ensures.value ∙ given.0; output_after = c.lay_file.ensures ∙ given.1 }
