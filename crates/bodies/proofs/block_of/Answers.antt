-- `bodies::block_of` meets its contract: the output, the entry and the length are tested first, and the rest is the
-- block that is laid down.
-- Assumes nothing.
use mathlib.Core.Path.{sym, ◌∙◌}
use Rattle.std.proofs.lemmas.Result.{err_from_is_err_and}
use Rattle.bodies.proofs.Bodies.{bad_output, not_whole, refused, block_answer, block_left}
use Rattle.bodies.proofs.block_of.Goals as goal

pub returns-then-output-ne1024 : goal.returns-then-output-ne1024
returns-then-output-ne1024 c =
    let args = c.args in
    let e = args.e in
    let body = args.body.now in
    let output = args.output.now in
    let both = refused e body output (bad_output e body output c.if-output-ne1024.true) in record { value = both.0; output_after = both.1 }

pub returns-in_err-check_length : goal.returns-in_err-check_length
returns-in_err-check_length c =
    let args = c.args in
    let e = args.e in
    let body = args.body.now in
    let output = args.output.now in
    let given = err_from_is_err_and c.from_residual.result c.from_residual.ensures.1 in
    let both = not_whole e body output c.if-output-ne1024.false c.in_err-check_length.ensures.refusal in
    rw (given.1, given.2) record { value = both.0; output_after = both.1 }

pub lay_down-requires : goal.lay_down-requires
lay_down-requires c =
    let right = c.in_ok-check_length.ensures.e_value in
    record { e_value = right.0; body_len = right.1; output_len = c.if-output-ne1024.false }

pub returns : goal.returns
returns c =
    let args = c.args in
    let e = args.e in
    let body = args.body.now in
    let output = args.output.now in
    let right = c.in_ok-check_length.ensures.e_value in record { value = c.lay_down.ensures.value ∙ sym (block_answer e body output right.0 right.1 c.if-output-ne1024.false); output_after = c.lay_down.ensures.output_after ∙ sym (block_left e body output right.0 right.1 c.if-output-ne1024.false) }
