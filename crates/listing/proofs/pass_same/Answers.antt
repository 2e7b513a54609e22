-- `listing::pass_same` meets its contract, by the answer to the body.
-- Assumes nothing.
use mathlib.Core.Path.{sym, ap, ap₂, ◌∙◌}
use Rattle.contents.specs.Answers.{number_of}
use Rattle.contents.proofs.Answers.{refusal_numbered}
use Rattle.listing.specs.Machine.{turn_of, between}
use Rattle.listing.proofs.Same.{same_bad, same_good}
use Rattle.listing.proofs.pass_same.Goals as goal

pub returns-in-Err : goal.returns-in-Err
returns-in-Err c =
    let args = c.args in
    let is = same_bad args.state args.left_front.now args.right_front.now args.left_body.now args.out.now c.in-Err.ensures (refusal_numbered _) in
    record { value = c.refuse.ensures.value ∙ sym (ap turn_of is); out_after = c.refuse.ensures.out_after ∙ sym (ap (λ g. g.out) is) }

pub returns : goal.returns
returns c =
    let args = c.args in
    let is = same_good args.state args.left_front.now args.right_front.now args.left_body.now args.out.now c.check_body.ensures (ap number_of c.in_default.is) in record { value = c.between.ensures ∙ ap₂ (λ t k. between t k 0) c.past-there.ensures c.plus.ensures ∙ sym (ap turn_of is); out_after = sym (ap (λ g. g.out) is) }
