-- `renumber::pairs::is_behind` meets its contract: equal new numbers go by their places.
-- Assumes nothing.
use Rattle.renumber.proofs.Tested.{behind_equal, behind-other}
use Rattle.renumber.proofs.pairs.is_behind.Goals as goal

pub returns-then-new-p : goal.returns-then-new-p
returns-then-new-p c = let args = c.args in behind_equal args.new.now args.p args.q c.if-new-p.true

pub returns : goal.returns
returns c = let args = c.args in behind-other args.new.now args.p args.q c.if-new-p.false
