-- `runs::first_beyond` meets its contract. The loop's invariant: every place passed holds a number below the limit.
-- Assumes nothing.
use native.Mathlib.Omega.{arith}
use borrow.Author.Count.{below_none, below_more}
use Rattle.lists.proofs.Search.{first-beyond_only}
use Rattle.runs.proofs.first_beyond.Goals as goal

pub loop-place-init : goal.loop-place-init
loop-place-init c = (omega arith, below_none _)

pub overflow_cast-index : goal.overflow_cast-index
overflow_cast-index c = omega (arith, c.type_inv.indices c.loop-place.place)

pub loop-place-preserved : goal.loop-place-preserved
loop-place-preserved c = (omega arith, below_more _ _ c.loop-place.invariant.1 c.if-limit-index.false)

pub returns-then-indices-place : goal.returns-then-indices-place
returns-then-indices-place c = first-beyond_only _ _ _ (omega arith) c.loop-place.invariant.1 (λ h. absurd (omega arith))

pub returns-then-limit-index : goal.returns-then-limit-index
returns-then-limit-index c =
    first-beyond_only _ _ _ (omega arith) c.loop-place.invariant.1 (λ h. c.if-limit-index.true)
