-- `renumber::pairs::is_ordered` meets its contract: the pair is there, and behind the one before it.
-- Assumes nothing.
use mathlib.Core.Path.{◌∙◌}
use Rattle.renumber.proofs.Tested.{ordered-beyond, ordered-first, ordered_later}
use native.Mathlib.Omega.{arith}
use Rattle.renumber.proofs.pairs.is_ordered.Goals as goal

pub returns-then-new-q : goal.returns-then-new-q
returns-then-new-q c = let args = c.args in ordered-beyond args.new.now args.order.now args.i c.if-new-q.true

pub returns-then-i-eq0 : goal.returns-then-i-eq0
returns-then-i-eq0 c =
    let args = c.args in ordered-first args.new.now args.order.now args.i (omega arith) c.if-i-eq0.true

pub is_behind-requires : goal.is_behind-requires
is_behind-requires c = (c.requires.i_in_bounds_2 (omega arith), omega arith)

pub returns : goal.returns
returns c =
    let args = c.args in c.is_behind.ensures ∙ ordered_later args.new.now args.order.now args.i (omega arith) c.if-i-eq0.false
