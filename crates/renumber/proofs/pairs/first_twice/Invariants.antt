-- `renumber::pairs::first_twice` meets its contract: equal numbers stand side by side along the order.
-- Assumes nothing.
use Rattle.renumber.proofs.Twins.{Twins}
use Rattle.renumber.proofs.pairs.first_twice.Given as goal

abbrev pub invariant-loop-i : goal.invariant-loop-i
invariant-loop-i l = Twins l.new l.order l.low l.i
