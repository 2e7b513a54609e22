-- `bits::lay_out` meets its contract. The loop's invariant: the first w words of the output are gathered.
-- Assumes nothing.
use mathlib.Core.Path.{refl, ap, ◌∙◌}
use Prim.Native.Nat.{◌+◌, ◌*◌, ◌<◌}
use native.Mathlib.Omega.{arith}
use Rattle.lists.specs.Tab.{tab}
use Rattle.lists.proofs.Tabs.{written_none, written_next, written_all}
use Rattle.bits.specs.InnerSteps.{gather_of, gathers_of, round_start}
use Rattle.bits.proofs.Walks.{round_room}
use Rattle.bits.proofs.lay_out.Goals as goal
use Rattle.bits.proofs.lay_out.Goals.{In-loop-w}

pub loop-w-init : goal.loop-w-init
loop-w-init c = written_none (omega arith)

-- the bytes that a turn gathers are among the 128
within : (c : In-loop-w)
    → let args = c.args in round_start args.turns args.near args.far c.loop-w.w + 7 * 8 < 128
within c =
    round_room _ _ _ c.requires.turns_nonzero c.requires.far_bound _ c.loop-w-test.true

pub overflow_mul-w : goal.overflow_mul-w
unfolding round_start
overflow_mul-w c = omega (arith, within (goal.at.overflow_mul-w c).In-loop-w)

pub overflow_mul-w-in-loop-w : goal.overflow_mul-w-in-loop-w
unfolding round_start
overflow_mul-w-in-loop-w c = omega (arith, within (goal.at.overflow_mul-w-in-loop-w c).In-loop-w)

pub overflow_add-w : goal.overflow_add-w
unfolding round_start
overflow_add-w c = omega (arith, within (goal.at.overflow_add-w c).In-loop-w)

pub gather-requires : goal.gather-requires
unfolding round_start
gather-requires c = within (goal.at.gather-requires c).In-loop-w

pub loop-w-preserved : goal.loop-w-preserved
unfolding round_start
loop-w-preserved c = written_next c.loop-w.invariant _ _ (omega arith) (omega arith) c.gather.ensures

pub returns : goal.returns
unfolding gathers_of
returns c =
    let args = c.args in
    written_all c.loop-w.invariant 16 (omega arith) refl
    ∙ ap (λ bytes. tab 16 (λ w. gather_of bytes (round_start args.turns args.near args.far w) 8)) c.bytes_of-bytes.ensures
