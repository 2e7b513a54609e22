-- The loop counts its turns down.
use Rattle.changes.proofs.run.Given as goal

abbrev pub decreases-loop-more : goal.decreases-loop-more
decreases-loop-more l = l.more
