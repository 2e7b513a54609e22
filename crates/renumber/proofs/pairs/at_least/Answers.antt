-- `renumber::pairs::at_least` meets its contract: the bounds close in on the place.
-- Assumes nothing.
use Rattle.renumber.proofs.Halving.{halved_none, halved_up, halved_down, halved_done}
use native.Mathlib.Omega.{arith}
use Rattle.renumber.proofs.pairs.at_least.Goals as goal

pub loop-low-init : goal.loop-low-init
loop-low-init c = halved_none _ _

pub loop-low-preserved-then-list-middle : goal.loop-low-preserved-then-list-middle
loop-low-preserved-then-list-middle c =
    halved_up c.requires c.loop-low.invariant _ (omega arith) (omega arith) c.if-list-middle.true

pub loop-low-preserved : goal.loop-low-preserved
loop-low-preserved c =
    halved_down c.requires c.loop-low.invariant _ (omega arith) (omega arith) c.if-list-middle.false

pub returns : goal.returns
returns c = halved_done c.loop-low.invariant (omega arith)
