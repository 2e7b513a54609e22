-- `listing::after_front` meets its contract, by the side.
-- Assumes nothing.
use mathlib.Core.Path.{sym, ap, ◌∙◌}
use Rattle.listing.specs.Machine.{turn_of, after_front}
use Rattle.listing.proofs.after_front.Goals as goal

pub returns-in-Left : goal.returns-in-Left
returns-in-Left c =
    let args = c.args in
    let is = ap (λ x. after_front args.state x args.left_front.now args.right_front.now args.out.now) c.in-Left.is in
    record { value = c.check_front.ensures.value ∙ sym (ap turn_of is); out_after = c.check_front.ensures.out_after ∙ sym (ap (λ g. g.out) is) }

pub returns-in-Right : goal.returns-in-Right
returns-in-Right c =
    let args = c.args in
    let is = ap (λ x. after_front args.state x args.left_front.now args.right_front.now args.out.now) c.in-Right.is in
    record { value = c.check_front-in-Right.ensures.value ∙ sym (ap turn_of is); out_after = c.check_front-in-Right.ensures.out_after ∙ sym (ap (λ g. g.out) is) }
