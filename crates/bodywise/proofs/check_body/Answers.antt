-- `bodywise::check_body` meets its contract: the entry is tested, and a refusal of the body gets its place.
-- Assumes nothing.
use mathlib.Core.Path.{ap, ◌∙◌}
use Rattle.contents.specs.Answers.{file_answer}
use Rattle.bodies.specs.Bodies.{body_tests}
use Rattle.bodywise.specs.InnerPlaced.{in_block}
use Rattle.std.proofs.lemmas.Result.{err_from_is_err_and}
use Rattle.bodywise.proofs.Steps.{entry_first, entry-passed, body_placed}
use Rattle.bodywise.proofs.check_body.Goals as goal

pub returns-in_err-check_entry : goal.returns-in_err-check_entry
returns-in_err-check_entry c =
    let args = c.args in
    let given = err_from_is_err_and c.from_residual.result c.from_residual.ensures.1 in
    rw (given.1, given.2) (entry_first args.front.now args.i _ c.in_err-check_entry.ensures)

pub returns : goal.returns
returns c =
    let args = c.args in
    c.in_block.ensures
    ∙ ap (in_block args.i) (c.check.ensures ∙ ap (λ e. file_answer (body_tests e args.body.now)) c.entry_or.ensures)
    ∙ body_placed args.front.now args.i args.body.now
    (entry-passed args.front.now args.i c.in_ok-check_entry.ensures)
