-- `renumber::pairs::first_unrising` meets its contract: the list rises at every place that was passed.
-- Assumes nothing.
use borrow.Author.Count.{below_more}
use Rattle.renumber.proofs.Tested.{rises-first, rises_later, unrising-found, unrising-none}
use native.Mathlib.Omega.{arith}
use Rattle.renumber.proofs.pairs.first_unrising.Goals as goal

pub loop-i-init : goal.loop-i-init
loop-i-init c = λ k h. rises-first c.args.list.now k (omega arith)

pub returns-then-list-i : goal.returns-then-list-i
returns-then-list-i c =
    unrising-found c.args.list.now c.loop-i.i c.loop-i.invariant (omega arith) (omega arith) c.if-list-i.true

pub loop-i-preserved : goal.loop-i-preserved
loop-i-preserved c =
    below_more _ _ c.loop-i.invariant (rises_later c.args.list.now c.loop-i.i (omega arith))

pub returns : goal.returns
returns c = unrising-none c.args.list.now c.loop-i.i c.loop-i.invariant (omega arith)
