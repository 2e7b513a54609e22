-- `listing::behind` meets its contract, by the side.
-- Assumes nothing.
use mathlib.Core.Path.{sym, ap, ◌∙◌}
use Rattle.listing.specs.Machine.{behind}
use Rattle.listing.proofs.behind.Goals as goal

pub returns-in-Left : goal.returns-in-Left
returns-in-Left c =
    let args = c.args in
    c.ask_head.ensures ∙ sym (ap (behind args.state) c.in-Left.is)

pub returns-in-Right : goal.returns-in-Right
returns-in-Right c =
    let args = c.args in
    c.turn_to.ensures ∙ sym (ap (behind args.state) c.in-Right.is)
