-- `replay::wire::numbers` meets its contract. The loop's invariant: the first i numbers are written.
-- Assumes nothing.
use Rattle.std.proofs.Common.{◌≡◌, ◌+◌, ◌*◌, ◌≤◌, sym, zero-le, zero-add, arith}
use Rattle.lists.proofs.Tabs.{written_none, written_next, written-length}
use Rattle.replay.proofs.Elements.{within}
use Rattle.replay.proofs.wire.numbers.Goals as goal
use Rattle.replay.proofs.wire.numbers.Goals.{In-loop-i}

pub loop-i-init : goal.loop-i-init
loop-i-init c = written_none zero-le

-- the bytes of the number that a turn reads are there
inside : (c : In-loop-i)
    → c.loop-i.i * c.args.size + c.args.size ≤ 32768
inside c = within c.args.size c.requires.size_value c.loop-i.i (omega arith)

pub overflow_mul-i : goal.overflow_mul-i
overflow_mul-i c = omega (arith, inside (goal.at.overflow_mul-i c).In-loop-i)

pub element-requires : goal.element-requires
element-requires c =
    record { size_in_bounds = omega (arith, inside (goal.at.element-requires c).In-loop-i, c.element-arg-1.given); size_value = c.requires.size_value }

pub bounds-out-i : goal.bounds-out-i
bounds-out-i c = omega (arith, written-length c.loop-i.invariant)

pub loop-i-preserved : goal.loop-i-preserved
loop-i-preserved c =
    let inv = c.loop-i.invariant in
    written_next inv _ _ (omega arith) (sym (zero-add _)) c.element.ensures

pub returns : goal.returns
returns c =
    let e : c.loop-i.i ≡ c.args.n = omega arith in
    rw e at c.loop-i.invariant.is
