-- `renumber::pairs::at_least` meets its contract: the bounds close in on the place.
-- Assumes nothing.
use Rattle.renumber.proofs.Halving.{Halved}
use Prim.Native.Nat.{◌-◌}
use Rattle.renumber.proofs.pairs.at_least.Given as goal

abbrev pub invariant-loop-low : goal.invariant-loop-low
invariant-loop-low l = Halved l.list l.x l.low l.high

abbrev pub decreases-loop-low : goal.decreases-loop-low
decreases-loop-low l = l.high - l.low
