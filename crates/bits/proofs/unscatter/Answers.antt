-- `bits::unscatter` meets its contract. The loop's invariant: the first g groups are gathered and transposed.
-- Assumes nothing.
use mathlib.Core.Path.{refl, sym, ap, ◌∙◌, subst}
use Prim.Native.Nat.{◌+◌, ◌*◌, ◌/◌, ◌<◌}
use native.Mathlib.Omega.{arith}
use Rattle.lists.specs.Tab.{tab}
use Rattle.lists.proofs.Tabs.{written_none, written_next, written_all}
use Rattle.places.proofs.Places.{order_lt}
use Rattle.bits.specs.InnerSteps.{gather_of, turn_of, turns_of, unscatter_start}
use Rattle.bits.proofs.unscatter.Goals as goal
use Rattle.bits.proofs.unscatter.Goals.{After-order}

pub loop-g-init : goal.loop-g-init
loop-g-init c = written_none (omega arith)

-- what the order list gives is below 8
small : (c : After-order) → c.order.result < 8
small c = subst (λ n. n < 8) (sym c.order.ensures) (order_lt _ (omega arith))

pub overflow_mul-order : goal.overflow_mul-order
overflow_mul-order c = omega (arith, small (goal.at.overflow_mul-order c).After-order)

pub overflow_add-order : goal.overflow_add-order
overflow_add-order c = omega (arith, small (goal.at.overflow_add-order c).After-order)

pub gather-requires : goal.gather-requires
gather-requires c = omega (arith, small (goal.at.gather-requires c).After-order)

pub loop-g-preserved : goal.loop-g-preserved
unfolding unscatter_start
loop-g-preserved c =
    let bytes = c.bytes_of-bytes.result in
    let g = c.loop-g.g in
    written_next c.loop-g.invariant _ _ (omega arith) (omega arith)
    (c.transpose_8x8.ensures
    ∙ ap turn_of (c.gather.ensures ∙ ap (λ o. gather_of bytes (o * 2 + g / 8) 16) c.order.ensures))

pub returns : goal.returns
unfolding turns_of
returns c =
    written_all c.loop-g.invariant 16 (omega arith) refl
    ∙ ap (λ bytes. tab 16 (λ g. turn_of (gather_of bytes (unscatter_start g) 16))) c.bytes_of-bytes.ensures
