-- `listing::at_body` meets its contract, by the side.
-- Assumes nothing.
use mathlib.Core.Path.{sym, ap, ◌∙◌}
use Rattle.listing.specs.Machine.{at_body_lem}
use Rattle.listing.proofs.at_body.Goals as goal

pub returns-in-Left : goal.returns-in-Left
returns-in-Left c =
    let args = c.args in
    c.at_bodies.ensures ∙ sym (ap (λ x. at_body_lem args.state x args.body) c.in-Left.is)

pub returns-in-Right : goal.returns-in-Right
returns-in-Right c =
    let args = c.args in
    c.at_bodies-in-Right.ensures ∙ sym (ap (λ x. at_body_lem args.state x args.body) c.in-Right.is)
