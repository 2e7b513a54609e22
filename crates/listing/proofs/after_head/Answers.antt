-- `listing::after_head` meets its contract, by the side.
-- Assumes nothing.
use mathlib.Core.Path.{sym, ap, ◌∙◌}
use Rattle.listing.specs.Machine.{after_head}
use Rattle.listing.proofs.after_head.Goals as goal

pub returns-in-Left : goal.returns-in-Left
returns-in-Left c =
    let args = c.args in
    c.ask_front.ensures ∙ sym (ap (λ x. after_head args.state x args.left_front.now args.right_front.now) c.in-Left.is)

pub returns-in-Right : goal.returns-in-Right
returns-in-Right c =
    let args = c.args in
    c.ask_front-in-Right.ensures ∙ sym (ap (λ x. after_head args.state x args.left_front.now args.right_front.now) c.in-Right.is)
