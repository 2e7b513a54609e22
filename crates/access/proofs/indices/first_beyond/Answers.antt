-- `access::indices::first_beyond` meets its contract. The loop's invariant: every place passed holds an index below 1,024.
-- Assumes nothing.
use native.Mathlib.Omega.{arith}
use borrow.Author.Count.{below_none, below_more}
use Rattle.lists.proofs.Search.{first-beyond_only}
use Rattle.access.proofs.indices.first_beyond.Goals as goal

pub loop-i-init : goal.loop-i-init
loop-i-init c = (omega arith, below_none _)

pub loop-i-preserved : goal.loop-i-preserved
loop-i-preserved c = (omega arith, below_more _ _ c.loop-i.invariant.1 c.if-indices-i-ge1024.false)

pub returns-then-indices-i : goal.returns-then-indices-i
returns-then-indices-i c = first-beyond_only _ _ _ (omega arith) c.loop-i.invariant.1 (λ h. absurd (omega arith))

pub returns-then-indices-i-ge1024 : goal.returns-then-indices-i-ge1024
returns-then-indices-i-ge1024 c =
    first-beyond_only _ _ _ (omega arith) c.loop-i.invariant.1 (λ h. c.if-indices-i-ge1024.true)
