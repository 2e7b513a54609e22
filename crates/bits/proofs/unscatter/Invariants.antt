-- `bits::unscatter` meets its contract. The loop's invariant: the first g groups are gathered and transposed.
-- Assumes nothing.
use Rattle.lists.proofs.Tabs.{Written}
use Rattle.bits.specs.InnerSteps.{gather_of, turn_of, unscatter_start}
use Rattle.bits.proofs.unscatter.Given as goal

abbrev pub invariant-loop-g : goal.invariant-loop-g
invariant-loop-g l =
    Written 0 l.g (λ g. turn_of (gather_of l.bytes (unscatter_start g) 16)) l.initial.groups l.groups
