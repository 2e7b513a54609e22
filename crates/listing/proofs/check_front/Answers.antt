-- `listing::check_front` meets its contract, by the answer to the contents.
-- Assumes nothing.
use mathlib.Core.Path.{sym, ap, ◌∙◌}
use Rattle.contents.specs.Answers.{number_of}
use Rattle.contents.proofs.Answers.{refusal_numbered}
use Rattle.listing.specs.Machine.{turn_of, go_to}
use Rattle.listing.proofs.Stages.{front_bad, front-good}
use Rattle.listing.proofs.check_front.Goals as goal

pub returns-in-Err : goal.returns-in-Err
returns-in-Err c =
    let args = c.args in
    let is = front_bad args.state args.side args.size args.front.now args.out.now c.in-Err.ensures (refusal_numbered _) in
    record { value = c.refuse.ensures.value ∙ sym (ap turn_of is); out_after = c.refuse.ensures.out_after ∙ sym (ap (λ g. g.out) is) }

pub returns : goal.returns
returns c =
    let args = c.args in
    let is = front-good args.state args.side args.size args.front.now args.out.now c.check.ensures (ap number_of c.in_default.is) in
    record { value = c.go_to.ensures ∙ ap (go_to args.state args.side args.front.now) c.first.ensures ∙ sym (ap turn_of is); out_after = sym (ap (λ g. g.out) is) }
