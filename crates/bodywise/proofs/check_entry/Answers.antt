-- `bodywise::check_entry` meets its contract: 10 has the entry as place.
-- Assumes nothing.
use mathlib.Core.Path.{sym, ◌∙◌}
use Rattle.contents.proofs.Answers.{none_left}
use Rattle.bodywise.proofs.Steps.{entry-right, entry_wrong}
use Rattle.bodywise.proofs.check_entry.Goals as goal

pub returns-then-has_right_entry : goal.returns-then-has_right_entry
returns-then-has_right_entry c =
    let args = c.args in
    sym (entry-right args.front.now args.i _ (sym c.has_right_entry.ensures ∙ c.if-has_right_entry.true) ∙ none_left)

pub returns : goal.returns
returns c =
    let args = c.args in
    sym (entry_wrong args.front.now args.i _ (sym c.has_right_entry.ensures ∙ c.if-has_right_entry.false))
