-- `bodywise::step` meets its contract: a refusal stays, then the body is tested, and then the range of its block.
-- Assumes nothing.
use mathlib.Core.Path.{sym, ap, ◌∙◌}
use Rattle.std.specs.Prelude.{Err}
use Rattle.contents.specs.Answers.{number_of}
use Rattle.contents.proofs.Answers.{refusal_numbered}
use Rattle.std.proofs.lemmas.Result.{err_from_is_err_and}
use Rattle.bodywise.proofs.Steps.{step_settled, step-body, step_range}
use Rattle.bodywise.proofs.step.Goals as goal

pub returns-in_err-answer : goal.returns-in_err-answer
returns-in_err-answer c =
    let args = c.args in
    let given = err_from_is_err_and c.from_residual.result c.from_residual.ensures.1 in
    rw (given.1, given.2, c.in_err-answer.was)
    (sym (step_settled args.front.now args.i args.body.now (Err _) (refusal_numbered _)))

pub returns-in_err-check_body : goal.returns-in_err-check_body
returns-in_err-check_body c =
    let args = c.args in
    let given = err_from_is_err_and c.from_residual-in_err-check_body.result c.from_residual-in_err-check_body.ensures.1 in
    rw (given.1, given.2)
    (c.in_err-check_body.ensures
    ∙ sym (step-body args.front.now args.i args.body.now args.answer (ap number_of c.in_ok-answer.was)
    (λ d. refusal_numbered _ (ap number_of (c.in_err-check_body.ensures ∙ d)))))

pub check_range-requires : goal.check_range-requires
check_range-requires c = sym c.in_ok-check_body.ensures

pub returns : goal.returns
returns c =
    let args = c.args in
    c.check_range.ensures
    ∙ sym (step_range args.front.now args.i args.body.now args.answer (ap number_of c.in_ok-answer.was) (sym c.in_ok-check_body.ensures))
