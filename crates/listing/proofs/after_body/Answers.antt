-- `listing::after_body` meets its contract, by the side.
-- Assumes nothing.
use mathlib.Core.Path.{sym, ap, ◌∙◌}
use Rattle.listing.specs.Machine.{turn_of, after_body}
use Rattle.listing.proofs.after_body.Goals as goal

pub returns-in-Left : goal.returns-in-Left
returns-in-Left c =
    let args = c.args in
    let is = ap (λ x. after_body args.state x args.left_front.now args.right_front.now args.left_body.now args.right_body.now args.out.now) c.in-Left.is in
    record { value = c.check_body.ensures.value ∙ sym (ap turn_of is); out_after = c.check_body.ensures.out_after ∙ sym (ap (λ g. g.out) is) }

pub returns-in-Right : goal.returns-in-Right
returns-in-Right c =
    let args = c.args in
    let is = ap (λ x. after_body args.state x args.left_front.now args.right_front.now args.left_body.now args.right_body.now args.out.now) c.in-Right.is in
    record { value = c.check_body-in-Right.ensures.value ∙ sym (ap turn_of is); out_after = c.check_body-in-Right.ensures.out_after ∙ sym (ap (λ g. g.out) is) }
