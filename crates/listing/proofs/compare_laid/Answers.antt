-- `listing::compare_laid` meets its contract, by whether a row differs and by the ranges.
-- Assumes nothing.
use mathlib.Core.Path.{◌≡◌, sym, ap, ◌∙◌}
use mathlib.Core.Bool.{false}
use native.Mathlib.Omega.{arith}
use Rattle.contents.specs.Answers.{number_of}
use Rattle.contents.proofs.Answers.{refusal_numbered}
use Rattle.listing.specs.Machine.{turn_of}
use Rattle.listing.proofs.Stages.{alike, same_blocks, some_differ, other-range, left-range_bad, right-range_bad, ranges_good}
use Rattle.listing.proofs.Listed.{counted, noted}
use borrow.Author.Rules.{rules}
use Rattle.listing.proofs.compare_laid.Goals as goal
use Rattle.listing.proofs.compare_laid.Goals.{Joined-n-eq0, then-n-eq0+else-same_range, else-n-eq0}

-- where the ranges are looked at, a row differs or the files do not say the same range
apart : (c : Joined-n-eq0) → let args = c.args in alike args.state args.left_front.now args.right_front.now args.out.now args.left.now args.right.now ≡ false
apart c =
    let args = c.args in
    let many = counted args.left.now args.right.now args.places.now c.requires.left_len c.requires.right_len c.requires.places_len c.differing.ensures.value c.unwrap_or-n.ensures in
    elim c.if-n-eq0.branch [
      | then-n-eq0+else-same_range w ↦
          other-range args.state args.left_front.now args.right_front.now args.out.now args.left.now args.right.now (sym w.same_range.ensures ∙ w.if-same_range.false)
      | else-n-eq0 w ↦
          some_differ args.state args.left_front.now args.right_front.now args.out.now args.left.now args.right.now (λ z. w.if-n-eq0.false (many ∙ z))
    ]

pub list-requires : goal.list-requires
list-requires c =
    let args = c.args in
    let many = counted args.left.now args.right.now args.places.now c.requires.left_len c.requires.right_len c.requires.places_len c.differing.ensures.value c.unwrap_or-n.ensures in
    let there = noted args.left.now args.right.now args.places.now c.requires.left_len c.requires.right_len c.requires.places_len c.differing.ensures.places_after in
    record { in_bounds = search rules; n_value = many; n_in_bounds = omega (arith, many, there.1); places_value = there.0; number_bound = c.requires.number_bound }

pub returns-then-same_range : goal.returns-then-same_range
returns-then-same_range c =
    let args = c.args in
    let many = counted args.left.now args.right.now args.places.now c.requires.left_len c.requires.right_len c.requires.places_len c.differing.ensures.value c.unwrap_or-n.ensures in
    let is = same_blocks args.state args.left_front.now args.right_front.now args.out.now args.left.now args.right.now (sym many ∙ c.if-n-eq0.true) (sym c.same_range.ensures ∙ c.if-same_range.true) in
    record { value = c.list.ensures.value ∙ sym (ap turn_of is); out_after = c.list.ensures.out_after ∙ sym (ap (λ g. g.out) is) }

pub returns-in-Err : goal.returns-in-Err
returns-in-Err c =
    let args = c.args in
    let is = left-range_bad args.state args.left_front.now args.right_front.now args.out.now args.left.now args.right.now (apart (goal.at.returns-in-Err c).Joined-n-eq0) c.in-Err.ensures (refusal_numbered _) in
    record { value = c.refuse.ensures.value ∙ sym (ap turn_of is); out_after = c.refuse.ensures.out_after ∙ sym (ap (λ g. g.out) is) }

pub returns-in-Err-check_block : goal.returns-in-Err-check_block
returns-in-Err-check_block c =
    let args = c.args in
    let is = right-range_bad args.state args.left_front.now args.right_front.now args.out.now args.left.now args.right.now (apart (goal.at.returns-in-Err-check_block c).Joined-n-eq0) c.check_block.ensures (ap number_of c.in_default.is) c.in-Err-check_block.ensures (refusal_numbered _) in
    record { value = c.refuse-in-Err-check_block.ensures.value ∙ sym (ap turn_of is); out_after = c.refuse-in-Err-check_block.ensures.out_after ∙ sym (ap (λ g. g.out) is) }

pub list-requires-2 : goal.list-requires-2
list-requires-2 c =
    let args = c.args in
    let many = counted args.left.now args.right.now args.places.now c.requires.left_len c.requires.right_len c.requires.places_len c.differing.ensures.value c.unwrap_or-n.ensures in
    let there = noted args.left.now args.right.now args.places.now c.requires.left_len c.requires.right_len c.requires.places_len c.differing.ensures.places_after in
    record { in_bounds = search rules; n_value = many; n_in_bounds = omega (arith, many, there.1); places_value = there.0; number_bound = c.requires.number_bound }

pub returns : goal.returns
returns c =
    let args = c.args in
    let is = ranges_good args.state args.left_front.now args.right_front.now args.out.now args.left.now args.right.now (apart (goal.at.returns c).Joined-n-eq0) c.check_block.ensures (ap number_of c.in_default.is) c.check_block-2.ensures (ap number_of c.in_default-check_block.is) in
    record { value = c.list-2.ensures.value ∙ sym (ap turn_of is); out_after = c.list-2.ensures.out_after ∙ sym (ap (λ g. g.out) is) }
