-- `listing::check_body` meets its contract, by the answer to the body.
-- Assumes nothing.
use mathlib.Core.Path.{sym, ap, ◌∙◌}
use Rattle.bodywise.specs.Cursor.{next_body}
use Rattle.contents.specs.Answers.{number_of}
use Rattle.contents.proofs.Answers.{refusal_numbered}
use Rattle.listing.specs.Machine.{turn_of, go_to}
use Rattle.listing.proofs.Stages.{body_bad, body-good}
use Rattle.listing.proofs.check_body.Goals as goal

pub returns-in-Err : goal.returns-in-Err
returns-in-Err c =
    let args = c.args in
    let is = body_bad args.state args.side args.at args.front.now args.body.now args.out.now c.in-Err.ensures (refusal_numbered _) in
    record { value = c.refuse.ensures.value ∙ sym (ap turn_of is); out_after = c.refuse.ensures.out_after ∙ sym (ap (λ g. g.out) is) }

pub returns : goal.returns
returns c =
    let args = c.args in
    let front = args.front.now in
    let is = body-good args.state args.side args.at front args.body.now args.out.now c.step.ensures (ap number_of c.in_default.is) in record { value = c.go_to.ensures ∙ ap (go_to args.state args.side front) (c.next.ensures ∙ ap (next_body front) c.body_at-checked.ensures) ∙ sym (ap turn_of is); out_after = sym (ap (λ g. g.out) is) }
