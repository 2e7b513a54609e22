-- `compare::list_places` meets its contract: the places that differ so far stand at the front of the list.
-- Assumes nothing.
use Rattle.compare.proofs.Noted.{Noted}
use Rattle.compare.proofs.list_places.Given as goal

abbrev pub invariant-loop-i : goal.invariant-loop-i
invariant-loop-i l = Noted l.left l.right l.initial.places l.places l.n l.i
