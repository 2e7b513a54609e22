-- `runs::highest` meets its contract. The loop's invariant: the highest number of the places passed, with those to
-- come, is the highest of all.
-- Assumes nothing.
use Rattle.lists.proofs.Highs.{Passed}
use Rattle.runs.proofs.highest.Given as goal

abbrev pub invariant-loop-index : goal.invariant-loop-index
invariant-loop-index l = Passed l.indices l.high l.index-index
