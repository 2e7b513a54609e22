-- `renumber::replace_all` meets its contract: the front of the block is replaced, and what changed is counted.
-- Assumes nothing.
use Rattle.renumber.proofs.Blocks.{Replaced}
use Rattle.renumber.proofs.replace_all.Given as goal

abbrev pub invariant-loop-k : goal.invariant-loop-k
invariant-loop-k l = Replaced l.old l.new l.initial.block l.block l.changed l.k
