-- `bodies::runs_answer` meets its contract: an answer is done exactly when its number is 0.
-- Assumes nothing.
use mathlib.Core.Path.{sym, ◌∙◌}
use borrow.Author.Tests.{eq-eqb, ne_eqb}
use Rattle.bodies.proofs.Bodies.{runs_done, runs_bad}
use Rattle.bodies.proofs.runs_answer.Goals as goal

pub returns-then-number-eq0 : goal.returns-then-number-eq0
returns-then-number-eq0 c = runs_done (eq-eqb _ 0 (sym c.number.ensures ∙ c.if-number-eq0.true))

pub returns : goal.returns
returns c = runs_bad (ne_eqb _ 0 (λ e. c.if-number-eq0.false (c.number.ensures ∙ e)))
