-- `renumber::measure_again` meets its contract: where nothing changed the block is the one that was measured.
-- Assumes nothing.
use Rattle.renumber.proofs.measure_again.Goals as goal

pub returns-then-changed-eq0 : goal.returns-then-changed-eq0
returns-then-changed-eq0 c = c.requires c.if-changed-eq0.true
