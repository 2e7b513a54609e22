-- `listing::again` meets its contract, by the side.
-- Assumes nothing.
use mathlib.Core.Path.{sym, ap, ◌∙◌}
use Rattle.listing.specs.Machine.{turn_of, again}
use Rattle.listing.proofs.again.Goals as goal

pub returns-in-Left : goal.returns-in-Left
returns-in-Left c =
    let args = c.args in
    let is = ap (λ x. again args.state x args.left_front.now args.right_front.now args.left_body.now args.right_body.now args.out.now) c.in-Left.is in
    record { value = c.ask_again.ensures ∙ sym (ap turn_of is); out_after = sym (ap (λ g. g.out) is) }

pub returns-in-Right : goal.returns-in-Right
returns-in-Right c =
    let args = c.args in
    let is = ap (λ x. again args.state x args.left_front.now args.right_front.now args.left_body.now args.right_body.now args.out.now) c.in-Right.is in
    record { value = c.both_there.ensures.value ∙ sym (ap turn_of is); out_after = c.both_there.ensures.out_after ∙ sym (ap (λ g. g.out) is) }
