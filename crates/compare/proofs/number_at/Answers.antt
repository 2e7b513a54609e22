-- `compare::number_at` meets its contract.
-- Assumes nothing.
use mathlib.Core.Path.{sym}
use lib.ListN.{get_or-eq_default}
use Rattle.compare.proofs.number_at.Goals as goal

pub returns : goal.returns
returns c = sym (get_or-eq_default c.args.block.now 0 c.if-p-block.false)
