-- `compare::are_same` meets its contract: what is joined is 0 exactly while the blocks are the same.
-- Assumes nothing.
use mathlib.Core.Path.{refl}
use native.Mathlib.Omega.{arith}
use Rattle.compare.proofs.Noted.{alike-none, alike_next, alike_all}
use Rattle.compare.proofs.are_same.Goals as goal

pub loop-i-init : goal.loop-i-init
loop-i-init c = alike-none _ _

pub loop-i-preserved : goal.loop-i-preserved
loop-i-preserved c = alike_next _ c.loop-i.invariant (omega arith) refl

pub returns : goal.returns
returns c = alike_all c.loop-i.invariant c.loop-i-test.false
