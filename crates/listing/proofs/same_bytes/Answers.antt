-- `listing::same_bytes` meets its contract: what is joined is 0 only where the bytes are the same.
-- Assumes nothing.
use mathlib.Core.Path.{refl}
use native.Mathlib.Omega.{arith}
use Rattle.lists.proofs.Tests.{false-true}
use Rattle.listing.proofs.Same.{agree_none, agree_next, agree_all}
use Rattle.listing.proofs.same_bytes.Goals as goal

pub returns-then-a-b : goal.returns-then-a-b
returns-then-a-b c = λ e. absurd (false-true e)

pub loop-i-init : goal.loop-i-init
loop-i-init c = agree_none _ _

pub loop-i-preserved : goal.loop-i-preserved
loop-i-preserved c = agree_next _ c.loop-i.invariant (omega arith) refl

pub returns : goal.returns
returns c = agree_all c.loop-i.invariant c.loop-i-test.false (omega arith)
