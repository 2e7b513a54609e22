-- `renumber::pairs::renumber_one` meets its contract: by the number's place among the old ones.
-- Assumes nothing.
use Rattle.renumber.proofs.Becoming.{becomes_new, stays}
use native.Mathlib.Omega.{arith}
use Rattle.renumber.proofs.pairs.renumber_one.Goals as goal

pub returns-then-p-old : goal.returns-then-p-old
returns-then-p-old c =
    let args = c.args in becomes_new args.old.now args.new.now args.x c.place_in-p.result c.place_in-p.ensures (omega arith)

pub returns : goal.returns
returns c =
    let args = c.args in stays args.old.now args.new.now args.x c.place_in-p.result c.place_in-p.ensures (omega arith)
