-- `bits::gather` meets its contract. The loop's invariant: x is the number of the first i bytes.
-- Assumes nothing.
use mathlib.Core.Path.{◌≡◌}
use Prim.Native.Nat.{◌+◌, ◌*◌, ◌<◌}
use native.Mathlib.Omega.{arith}
use Rattle.bits.specs.InnerSteps.{gather_of}
use Rattle.bits.proofs.Gathers.{gathered_none, gathered_next, strided-lt}
use Rattle.bits.proofs.gather.Goals as goal
use Rattle.bits.proofs.gather.Goals.{In-loop-i}

pub loop-i-init : goal.loop-i-init
loop-i-init c = gathered_none _

-- the byte that a turn reads is one of the 128
within : (c : In-loop-i)
    → c.args.start + c.loop-i.i * c.args.step < 128
within c = strided-lt _ _ _ 128 c.loop-i-test.true c.requires

pub overflow_mul-i : goal.overflow_mul-i
overflow_mul-i c = omega (arith, within (goal.at.overflow_mul-i c).In-loop-i)

pub overflow_add-start : goal.overflow_add-start
overflow_add-start c = omega (arith, within (goal.at.overflow_add-start c).In-loop-i)

pub bounds-bytes-start : goal.bounds-bytes-start
bounds-bytes-start c = within (goal.at.bounds-bytes-start c).In-loop-i

pub loop-i-preserved : goal.loop-i-preserved
loop-i-preserved c =
    gathered_next _ _ _ _ c.loop-i.invariant (omega arith) c.wide.ensures.0 c.wide.ensures.1

pub returns : goal.returns
unfolding gather_of
returns c =
    let e : c.loop-i.i ≡ 8 = omega arith in
    rw e at c.loop-i.invariant.is
