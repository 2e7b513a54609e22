-- `renumber::pairs::is_new` meets its contract: the order has every place, so what stands nowhere along it is not new.
-- Assumes nothing.
use Rattle.renumber.proofs.Becoming.{new-found, new_none}
use native.Mathlib.Omega.{arith}
use Rattle.renumber.proofs.pairs.is_new.Goals as goal

pub offset_bounds-new-place : goal.offset_bounds-new-place
offset_bounds-new-place c = omega (arith, c.requires.within c.at_least_along-p.result (omega arith))

pub bounds-new-place : goal.bounds-new-place
bounds-new-place c = c.requires.within c.at_least_along-p.result (omega arith)

pub returns-then-p-order : goal.returns-then-p-order
returns-then-p-order c =
    let found = c.at_least_along-p in
    new-found c.args.new.now c.args.order.now c.requires.order_len c.requires.within c.requires.rising c.args.x found.result found.ensures (omega arith)

pub returns : goal.returns
returns c =
    let found = c.at_least_along-p in
    new_none c.args.new.now c.args.order.now c.requires.order_len c.requires.within c.requires.rising c.args.x found.result found.ensures (omega arith)
