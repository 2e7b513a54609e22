-- `places::row_start` meets its contract: the sum is the place formula at that row.
-- Assumes nothing.
use mathlib.Core.Path.{sym, ap, ◌∙◌, subst}
use Prim.Native.Nat.{◌+◌, ◌*◌, ◌%◌, ◌<◌}
use native.Mathlib.Omega.{arith}
use Rattle.places.proofs.Places.{order_lt, row-start}
use Rattle.places.proofs.row_start.Goals as goal
use Rattle.places.proofs.row_start.Goals.{After-order}

small : (c : After-order) → c.order.result < 8
small c = subst (λ n. n < 8) (sym c.order.ensures) (order_lt _ (omega arith))

pub overflow_mul-result : goal.overflow_mul-result
overflow_mul-result c = omega (arith, small (goal.at.overflow_mul-result c).After-order)

pub overflow_add-result : goal.overflow_add-result
overflow_add-result c = omega (arith, small (goal.at.overflow_add-result c).After-order)

pub returns : goal.returns
returns c =
    ap (λ n. n * 16 + c.args.i % 8 * 128) c.order.ensures
    ∙ sym (row-start (c.args.o % 8) (c.args.i % 8) (omega arith))
