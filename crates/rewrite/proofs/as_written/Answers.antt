-- `rewrite::as_written` meets its contract, case by case.
-- Assumes nothing.
use mathlib.Core.Path.{sym, ap, ◌∙◌}
use Rattle.std.specs.Prelude.{Err}
use Rattle.rewrite.specs.InnerPairless.{as_written}
use Rattle.rewrite.proofs.as_written.Goals as goal

pub returns-in-Ok : goal.returns-in-Ok
returns-in-Ok c = sym (ap as_written c.in-Ok.is)

pub returns-in-Err : goal.returns-in-Err
returns-in-Err c = ap Err c.own_refusal.ensures ∙ sym (ap as_written c.in-Err.is)
