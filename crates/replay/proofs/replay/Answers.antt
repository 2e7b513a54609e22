-- `replay::replay` is safe and ends. The measure is the number of turns that are left, and nothing has to hold from
-- turn to turn.
-- Assumes nothing.
use Rattle.replay.proofs.replay.Goals as goal

pub new-tally-requires : goal.new-tally-requires
new-tally-requires c = tt

pub loop-turns-init : goal.loop-turns-init
loop-turns-init c = tt

pub next-step-requires : goal.next-step-requires
next-step-requires c = tt

pub returns-in-End : goal.returns-in-End
returns-in-End c = tt

pub returns-in-Bad : goal.returns-in-Bad
returns-in-Bad c = tt

pub same-counted-requires : goal.same-counted-requires
same-counted-requires c = tt

pub differs-counted-requires : goal.differs-counted-requires
differs-counted-requires c = tt

pub loop-turns-preserved : goal.loop-turns-preserved
loop-turns-preserved c = tt

pub returns : goal.returns
returns c = tt
