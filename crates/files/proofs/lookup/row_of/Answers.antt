-- `files::lookup::row_of` meets its contract: the order list is asked below its end, and the arithmetic is the rule for
-- the row.
-- Assumes nothing.
use Rattle.std.proofs.Common.{◌+◌, ◌*◌, ◌/◌, ◌<◌, sym, ap, ◌∙◌, subst, arith}
use Rattle.places.proofs.Places.{order_lt}
use Rattle.files.proofs.Lookups.{row-alone}
use Rattle.files.proofs.lookup.row_of.Goals as goal
use Rattle.files.proofs.lookup.row_of.Goals.{After-order}

small : (c : After-order) → c.order.result < 8
small c = subst (λ n. n < 8) (sym c.order.ensures) (order_lt _ (omega arith))

pub overflow_mul-result : goal.overflow_mul-result
overflow_mul-result c = omega (arith, small (goal.at.overflow_mul-result c).After-order)

pub overflow_add-result : goal.overflow_add-result
overflow_add-result c = omega (arith, small (goal.at.overflow_add-result c).After-order)

pub returns : goal.returns
returns c =
    let place = c.args.place in
    ap (λ o. o * 8 + place / 128) c.order.ensures ∙ row-alone place
