-- `bits::group` meets its contract. The loop's invariant: the first g groups are gathered and transposed.
-- Assumes nothing.
use Rattle.std.proofs.Common.{◌≡◌, ◌+◌, ◌*◌, ◌/◌, ◌%◌, ◌<◌, refl, ap, ◌∙◌, arith, zero-le}
use Rattle.lists.specs.Tab.{tab}
use Rattle.lists.proofs.Tabs.{written_none, written_next, written_all}
use Rattle.bits.specs.InnerSteps.{gather_of, turn_of, turns_of, group_start}
use Rattle.bits.proofs.Walks.{group-room}
use Rattle.bits.proofs.group.Goals as goal
use Rattle.bits.proofs.group.Goals.{After-order-b}

pub loop-g-init : goal.loop-g-init
loop-g-init g c = written_none zero-le

-- where a turn begins to gather is the group's start, and its bytes are among the 128
start : (g : _) (c : After-order-b g) → c.loop-g.g % (g.row.LANES / 8) * g.row.T + c.order-b.result ≡ group_start g.row.T c.loop-g.g
unfolding group_start
start g c =
    rw g.met.E.Element.side_by_side
    (ap (λ o. c.loop-g.g % (g.row.LANES / 8) * g.row.T + o) c.order-b.ensures)

within : (g : _) (c : After-order-b g) → c.loop-g.g % (g.row.LANES / 8) * g.row.T + c.order-b.result + 7 * (g.row.T / 8) < 128
within g c = omega (arith, start g c, group-room g.met.E.Element.size c.loop-g.g c.loop-g-test.true)

pub overflow_add-e : goal.overflow_add-e
overflow_add-e g c = omega (arith, within g (goal.at.overflow_add-e g c).After-order-b)

pub gather-requires : goal.gather-requires
gather-requires g c = within g (goal.at.gather-requires g c).After-order-b

pub loop-g-preserved : goal.loop-g-preserved
loop-g-preserved g c =
    written_next c.loop-g.invariant _ _ (omega arith) (omega arith)
    (c.transpose_8x8.ensures
    ∙ ap turn_of (c.gather.ensures ∙ ap (λ a. gather_of c.bytes_of-bytes.result a (g.row.T / 8)) (start g (goal.at.loop-g-preserved g c).After-order-b)))

pub returns : goal.returns
unfolding turns_of
returns g c =
    written_all c.loop-g.invariant 16 (omega arith) refl
    ∙ ap (λ bytes. tab 16 (λ n. turn_of (gather_of bytes (group_start g.row.T n) (g.row.T / 8)))) c.bytes_of-bytes.ensures
