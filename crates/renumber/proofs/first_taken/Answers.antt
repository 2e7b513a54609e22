-- `renumber::first_taken` meets its contract: every number that was passed is free.
-- Assumes nothing.
use mathlib.Core.Path.{sym, ap, ◌∙◌}
use borrow.Author.Count.{below_more}
use Rattle.renumber.proofs.Blocks.{taken_skipped, taken-found, taken_none}
use Rattle.renumber.specs.InnerPairs.{meets_in}
use Rattle.renumber.specs.Pairs.{along}
use native.Mathlib.Omega.{arith}
use Rattle.renumber.proofs.first_taken.Goals as goal

pub meets_along-requires : goal.meets_along-requires
meets_along-requires c = record { within = c.requires.paired.places; rising = c.requires.paired.along_rising }

pub returns-then-not-meets_along : goal.returns-then-not-meets_along
returns-then-not-meets_along c =
    let args = c.args in
    taken_skipped args.old.now args.new.now args.block.now c.requires.paired
    (ap (λ r. meets_in (along args.order.now args.new.now) r.smallest r.largest) (sym c.requires.range_value) ∙ sym c.meets_along.ensures ∙ c.if-not-meets_along.true)

pub loop-k-init : goal.loop-k-init
loop-k-init c = λ j h. absurd (omega arith)

pub is_free-requires : goal.is_free-requires
is_free-requires c = c.requires.paired

pub returns-then-not-is_free : goal.returns-then-not-is_free
returns-then-not-is_free c =
    let args = c.args in
    let loop = c.loop-k in
    taken-found args.old.now args.new.now args.block.now loop.k (omega arith) loop.invariant (sym c.is_free.ensures ∙ c.if-not-is_free.true)

pub loop-k-preserved : goal.loop-k-preserved
loop-k-preserved c =
    below_more _ _ c.loop-k.invariant (sym c.is_free.ensures ∙ c.if-not-is_free.false)

pub returns : goal.returns
returns c =
    let args = c.args in
    taken_none args.old.now args.new.now args.block.now _ (omega arith) (λ j h. c.loop-k.invariant j (omega arith)) (omega arith)
