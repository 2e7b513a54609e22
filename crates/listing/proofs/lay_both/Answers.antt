-- `listing::lay_both` meets its contract, by the answers to both bodies.
-- Assumes nothing.
use mathlib.Core.Path.{sym, ap, ap₂, ◌∙◌}
use Rattle.contents.specs.Answers.{number_of}
use Rattle.contents.proofs.Answers.{refusal_numbered}
use Rattle.listing.specs.Machine.{turn_of, compared}
use Rattle.listing.proofs.Stages.{left_laid_bad, right_laid_bad, laid_good}
use Rattle.listing.proofs.Listed.{tests_same, laid_as}
use Rattle.listing.proofs.lay_both.Goals as goal

pub returns-in-Err : goal.returns-in-Err
returns-in-Err c =
    let args = c.args in
    let is = left_laid_bad args.state args.left_front.now args.right_front.now args.out.now args.left_body.now args.right_body.now (tests_same args.left_front.now args.state.number args.left_body.now args.left.now c.requires.left_len c.in-Err.ensures.value) (refusal_numbered _) in
    record { value = c.refuse.ensures.value ∙ sym (ap turn_of is); out_after = c.refuse.ensures.out_after ∙ sym (ap (λ g. g.out) is) }

pub returns-in-Err-held_block : goal.returns-in-Err-held_block
returns-in-Err-held_block c =
    let args = c.args in
    let is = right_laid_bad args.state args.left_front.now args.right_front.now args.out.now args.left_body.now args.right_body.now (tests_same args.left_front.now args.state.number args.left_body.now args.left.now c.requires.left_len c.held_block.ensures.value) (ap number_of c.in_default.is) (tests_same args.right_front.now args.state.number args.right_body.now args.right.now c.requires.right_len c.in-Err-held_block.ensures.value) (refusal_numbered _) in
    record { value = c.refuse-in-Err-held_block.ensures.value ∙ sym (ap turn_of is); out_after = c.refuse-in-Err-held_block.ensures.out_after ∙ sym (ap (λ g. g.out) is) }

pub returns : goal.returns
returns c =
    let args = c.args in
    let left-done = ap number_of c.in_default.is in
    let right-done = ap number_of c.in_default-held_block.is in
    let is = laid_good args.state args.left_front.now args.right_front.now args.out.now args.left_body.now args.right_body.now (tests_same args.left_front.now args.state.number args.left_body.now args.left.now c.requires.left_len c.held_block.ensures.value) left-done (tests_same args.right_front.now args.state.number args.right_body.now args.right.now c.requires.right_len c.held_block-2.ensures.value) right-done in
    let left_is = laid_as args.left_front.now args.state.number args.left_body.now args.left.now c.requires.left_len c.held_block.ensures.value left-done c.held_block.ensures.block_after in
    let right_is = laid_as args.right_front.now args.state.number args.right_body.now args.right.now c.requires.right_len c.held_block-2.ensures.value right-done c.held_block-2.ensures.block_after in record { value = c.compare_laid.ensures.value ∙ ap₂ (λ x y. turn_of (compared args.state args.left_front.now args.right_front.now x y args.out.now)) left_is right_is ∙ sym (ap turn_of is); out_after = c.compare_laid.ensures.out_after ∙ ap₂ (λ x y. (compared args.state args.left_front.now args.right_front.now x y args.out.now).out) left_is right_is ∙ sym (ap (λ g. g.out) is) }
