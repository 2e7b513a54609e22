-- `runs::highest` meets its contract. The loop's invariant: the highest number of the places passed, with those to
-- come, is the highest of all.
-- Assumes nothing.
use native.Mathlib.Omega.{arith}
use Rattle.lists.proofs.Highs.{passed_none, passed-next, passed_all}
use Rattle.runs.proofs.highest.Goals as goal

pub loop-index-init : goal.loop-index-init
loop-index-init c = passed_none _

pub loop-index-preserved : goal.loop-index-preserved
loop-index-preserved c = passed-next _ c.loop-index.invariant (omega arith) c.max-high.ensures

pub returns : goal.returns
returns c = passed_all c.loop-index.invariant (omega arith)
