-- `files::is_good_from` meets its contract: by what the check of the body ensures.
-- Assumes nothing.
use Rattle.std.proofs.Common.{ap, ◌∙◌, ap₂}
use Rattle.contents.specs.Answers.{is_done, file_answer}
use Rattle.contents.proofs.Answers.{ok_done}
use Rattle.bodies.specs.Bodies.{body_tests}
use Rattle.files.specs.Froms.{good_from}
use Rattle.files.proofs.is_good_from.Goals as goal

pub returns : goal.returns
unfolding good_from
returns c =
    c.is_ok.ensures.value
    ∙ ok_done _
    ∙ ap is_done (c.check.ensures ∙ ap₂ (λ e b. file_answer (body_tests e b)) c.entry_or.ensures c.body_from.ensures)
