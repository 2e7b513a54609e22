-- `renumber::measure_blocks` meets its contract: by what is known after each body of the walk.
-- Assumes nothing.
use Prim.Native.Nat.{◌-◌}
use Rattle.renumber.proofs.Measuring.{Measuring}
use Rattle.renumber.proofs.measure_blocks.Given as goal

abbrev pub invariant-loop-body : goal.invariant-loop-body
invariant-loop-body l = Measuring l.old l.new l.file l.n l.size l.changed l.body l.block l.kept l.counts

abbrev pub decreases-loop-body : goal.decreases-loop-body
decreases-loop-body l = l.n - l.body.number
