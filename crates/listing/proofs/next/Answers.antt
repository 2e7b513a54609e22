-- `listing::next` meets its contract, by what was wished for last.
-- Assumes nothing.
use mathlib.Core.Path.{sym, ap, ◌∙◌}
use native.Mathlib.Omega.{arith}
use Rattle.wishes.specs.Runs.{held}
use Rattle.listing.specs.Machine.{turn_of, by_stage}
use Rattle.listing.proofs.Stages.{small, at_stage}
use Rattle.listing.proofs.next.Goals as goal

pub returns-then-out-lt65536 : goal.returns-then-out-lt65536
returns-then-out-lt65536 c =
    let args = c.args in
    let is = small args.state (held args.left_front.now args.right_front.now args.left_body.now args.right_body.now) args.out.now c.if-out-lt65536.true in
    record { value = sym (ap turn_of is); out_after = sym (ap (λ g. g.out) is) }

pub returns-in-Head : goal.returns-in-Head
unfolding by_stage
returns-in-Head c =
    let args = c.args in
    let is = at_stage _ args.state (held args.left_front.now args.right_front.now args.left_body.now args.right_body.now) args.out.now (omega arith) c.in-Head.is in
    record { value = c.after_head.ensures ∙ sym (ap turn_of is); out_after = sym (ap (λ g. g.out) is) }

pub returns-in-Front : goal.returns-in-Front
unfolding by_stage
returns-in-Front c =
    let args = c.args in
    let is = at_stage _ args.state (held args.left_front.now args.right_front.now args.left_body.now args.right_body.now) args.out.now (omega arith) c.in-Front.is in
    record { value = c.after_front.ensures.value ∙ sym (ap turn_of is); out_after = c.after_front.ensures.out_after ∙ sym (ap (λ g. g.out) is) }

pub returns-in-Checking : goal.returns-in-Checking
unfolding by_stage
returns-in-Checking c =
    let args = c.args in
    let is = at_stage _ args.state (held args.left_front.now args.right_front.now args.left_body.now args.right_body.now) args.out.now (omega arith) c.in-Checking.is in
    record { value = c.after_body.ensures.value ∙ sym (ap turn_of is); out_after = c.after_body.ensures.out_after ∙ sym (ap (λ g. g.out) is) }

pub returns-in-Checked : goal.returns-in-Checked
unfolding by_stage
returns-in-Checked c =
    let args = c.args in
    let is = at_stage _ args.state (held args.left_front.now args.right_front.now args.left_body.now args.right_body.now) args.out.now (omega arith) c.in-Checked.is in
    record { value = c.begin.ensures ∙ sym (ap turn_of is); out_after = sym (ap (λ g. g.out) is) }

pub returns-in-Between : goal.returns-in-Between
unfolding by_stage
returns-in-Between c =
    let args = c.args in
    let is = at_stage _ args.state (held args.left_front.now args.right_front.now args.left_body.now args.right_body.now) args.out.now (omega arith) c.in-Between.is in
    record { value = c.go_on.ensures.value ∙ sym (ap turn_of is); out_after = c.go_on.ensures.out_after ∙ sym (ap (λ g. g.out) is) }

pub returns-in-Again : goal.returns-in-Again
unfolding by_stage
returns-in-Again c =
    let args = c.args in
    let is = at_stage _ args.state (held args.left_front.now args.right_front.now args.left_body.now args.right_body.now) args.out.now (omega arith) c.in-Again.is in
    record { value = c.again.ensures.value ∙ sym (ap turn_of is); out_after = c.again.ensures.out_after ∙ sym (ap (λ g. g.out) is) }

pub returns-in-End : goal.returns-in-End
unfolding by_stage
returns-in-End c =
    let args = c.args in
    let is = at_stage _ args.state (held args.left_front.now args.right_front.now args.left_body.now args.right_body.now) args.out.now (omega arith) c.in-End.is in
    record { value = sym (ap turn_of is); out_after = sym (ap (λ g. g.out) is) }
