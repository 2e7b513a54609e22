-- `bits::group` meets its contract. The loop's invariant: the first g groups are gathered and transposed.
-- Assumes nothing.
use Prim.Native.Nat.{◌/◌}
use Rattle.lists.proofs.Tabs.{Written}
use Rattle.bits.specs.InnerSteps.{gather_of, turn_of, group_start}
use Rattle.bits.proofs.group.Given as goal

abbrev pub invariant-loop-g : goal.invariant-loop-g
invariant-loop-g g l = Written 0 l.g (λ n. turn_of (gather_of l.bytes (group_start g.row.T n) (g.row.T / 8))) l.initial.groups l.groups
