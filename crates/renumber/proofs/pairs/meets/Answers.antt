-- `renumber::pairs::meets` meets its contract: the lowest number from the one bound on is looked at.
-- Assumes nothing.
use Rattle.renumber.proofs.Becoming.{meets_some, meets-none}
use native.Mathlib.Omega.{arith}
use Rattle.renumber.proofs.pairs.meets.Goals as goal

pub returns-then-p-list : goal.returns-then-p-list
returns-then-p-list c =
    let args = c.args in meets_some args.list.now args.low args.high c.at_least-p.result c.at_least-p.ensures (omega arith)

pub returns : goal.returns
returns c =
    let args = c.args in meets-none args.list.now args.low args.high c.at_least-p.result c.at_least-p.ensures (omega arith)
