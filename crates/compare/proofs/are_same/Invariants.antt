-- `compare::are_same` meets its contract: what is joined is 0 exactly while the blocks are the same.
-- Assumes nothing.
use Rattle.compare.proofs.Noted.{Alike}
use Rattle.compare.proofs.are_same.Given as goal

abbrev pub invariant-loop-i : goal.invariant-loop-i
invariant-loop-i l = Alike l.left l.right l.any l.i
