-- `listing::both_there` meets its contract, by whether the block is in both files, and is the same in both.
-- Assumes nothing.
use mathlib.Core.Path.{sym, ap, ◌∙◌}
use native.Mathlib.Omega.{arith}
use Rattle.listing.specs.Machine.{turn_of}
use Rattle.listing.proofs.Stages.{there_over, there_both}
use Rattle.listing.proofs.Same.{body_same}
use Rattle.listing.proofs.both_there.Goals as goal

pub returns-then-n-state : goal.returns-then-n-state
returns-then-n-state c =
    let args = c.args in
    let is = there_over args.state args.left_front.now args.right_front.now args.out.now args.left_body.now args.right_body.now (omega (arith, c.blocks_in_both-n.ensures, c.if-n-state.true)) in
    record { value = sym (ap turn_of is); out_after = sym (ap (λ g. g.out) is) }

pub returns-then-same_body : goal.returns-then-same_body
returns-then-same_body c =
    let args = c.args in
    let is =
    there_both args.state args.left_front.now args.right_front.now args.out.now args.left_body.now args.right_body.now (omega (arith, c.blocks_in_both-n.ensures, c.if-n-state.false))
    ∙ body_same args.state args.left_front.now args.right_front.now args.out.now args.left_body.now args.right_body.now (c.same_body.ensures c.if-same_body.true) in
    record { value = c.pass_same.ensures.value ∙ sym (ap turn_of is); out_after = c.pass_same.ensures.out_after ∙ sym (ap (λ g. g.out) is) }

pub returns : goal.returns
returns c =
    let args = c.args in
    let is = there_both args.state args.left_front.now args.right_front.now args.out.now args.left_body.now args.right_body.now (omega (arith, c.blocks_in_both-n.ensures, c.if-n-state.false)) in
    record { value = c.lay_both.ensures.value ∙ sym (ap turn_of is); out_after = c.lay_both.ensures.out_after ∙ sym (ap (λ g. g.out) is) }
