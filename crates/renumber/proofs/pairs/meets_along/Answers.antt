-- `renumber::pairs::meets_along` meets its contract: the lowest number from the one bound on is looked at.
-- Assumes nothing.
use Rattle.renumber.proofs.Tested.{length-along, get_d_along}
use Rattle.renumber.specs.Pairs.{along}
use mathlib.Core.Path.{sym, ap, ◌∙◌}
use lib.Dec.{leb}
use Rattle.renumber.proofs.Becoming.{meets_some, meets-none}
use native.Mathlib.Omega.{arith}
use Rattle.renumber.proofs.pairs.meets_along.Goals as goal

pub offset_bounds-list-place : goal.offset_bounds-list-place
offset_bounds-list-place c = omega (arith, c.requires.within c.at_least_along-p.result (omega arith))

pub bounds-list-place : goal.bounds-list-place
bounds-list-place c = c.requires.within c.at_least_along-p.result (omega arith)

pub returns-then-p-order : goal.returns-then-p-order
returns-then-p-order c =
    let args = c.args in
    let order = args.order.now in
    let list = args.list.now in
    let found = c.at_least_along-p in
    ap (λ v. leb v args.high) (sym (get_d_along order list found.result (omega arith)))
    ∙ meets_some (along order list) args.low args.high found.result found.ensures (omega (arith, length-along order list))

pub returns : goal.returns
returns c =
    let args = c.args in
    let order = args.order.now in
    let list = args.list.now in
    meets-none (along order list) args.low args.high c.at_least_along-p.result c.at_least_along-p.ensures (omega (arith, length-along order list))
