-- `plain::place` meets its contract: the sum is the place formula.
-- Assumes nothing.
use mathlib.Core.Path.{sym, ap, subst}
use Prim.Native.Nat.{◌+◌, ◌*◌, ◌%◌, ◌<◌}
use native.Mathlib.Omega.{arith}
use Rattle.places.specs.Places as Places
use Rattle.places.proofs.Places.{order_lt}
use Rattle.plain.proofs.place.Goals as goal
use Rattle.plain.proofs.place.Goals.{After-order}

small : (c : After-order) → c.order.result < 8
small c = subst (λ n. n < 8) (sym c.order.ensures) (order_lt _ (omega arith))

pub overflow_mul-result : goal.overflow_mul-result
overflow_mul-result c = omega (arith, small (goal.at.overflow_mul-result c).After-order)

pub overflow_add-result : goal.overflow_add-result
overflow_add-result c = omega (arith, small (goal.at.overflow_add-result c).After-order)

pub overflow_add-result-2 : goal.overflow_add-result-2
overflow_add-result-2 c = omega (arith, small (goal.at.overflow_add-result-2 c).After-order)

pub returns : goal.returns
unfolding Places.place
returns c = ap (λ n. n * 16 + c.args.row % 8 * 128 + c.args.lane) c.order.ensures
