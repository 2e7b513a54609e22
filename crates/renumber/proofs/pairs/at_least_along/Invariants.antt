-- `renumber::pairs::at_least_along` meets its contract: the bounds close in on the place.
-- Assumes nothing.
use Prim.Native.Nat.{◌-◌, ◌≤◌}
use Rattle.renumber.specs.Pairs.{along}
use Rattle.renumber.proofs.Halving.{Halved}
use lib.ListN.{length}
use Rattle.renumber.proofs.pairs.at_least_along.Given as goal

abbrev pub invariant-loop-low : goal.invariant-loop-low
invariant-loop-low l = Halved (along l.order l.list) l.x l.low l.high × (l.high ≤ length l.order)

abbrev pub decreases-loop-low : goal.decreases-loop-low
decreases-loop-low l = l.high - l.low
