-- `renumber::pairs::at_least_along` meets its contract: the bounds close in on the place.
-- Assumes nothing.
use mathlib.Core.Path.{sym, subst}
use Prim.Native.Nat.{◌+◌, ◌-◌, ◌/◌, ◌≤◌, ◌<◌}
use Rattle.renumber.proofs.Tested.{length-along, get_d_along}
use Rattle.renumber.specs.Pairs.{along}
use Rattle.renumber.proofs.Halving.{Halved, halved_none, halved_up, halved_down, halved_done}
use native.Mathlib.Omega.{arith}
use Rattle.renumber.proofs.pairs.at_least_along.Goals as goal

pub loop-low-init : goal.loop-low-init
loop-low-init c =
    (subst (Halved (along c.args.order.now c.args.list.now) c.args.x 0) (length-along _ _) (halved_none _ _), omega arith)

pub offset_bounds-list-place : goal.offset_bounds-list-place
offset_bounds-list-place c =
    let loop = c.loop-low in omega (arith, c.requires.within (loop.low + (loop.high - loop.low) / 2) (omega (arith, loop.invariant.1)))

pub bounds-list-place : goal.bounds-list-place
bounds-list-place c = c.requires.within _ (omega (arith, c.loop-low.invariant.1))

pub loop-low-preserved-then-list-place : goal.loop-low-preserved-then-list-place
loop-low-preserved-then-list-place c =
    (halved_up c.requires.rising c.loop-low.invariant.0 _ (omega arith) (omega arith) (subst (λ v. v < c.args.x) (sym (get_d_along _ _ _ (omega (arith, c.loop-low.invariant.1)))) c.if-list-place.true), c.loop-low.invariant.1)

pub loop-low-preserved : goal.loop-low-preserved
loop-low-preserved c =
    (halved_down c.requires.rising c.loop-low.invariant.0 _ (omega arith) (omega arith) (subst (λ v. c.args.x ≤ v) (sym (get_d_along _ _ _ (omega (arith, c.loop-low.invariant.1)))) c.if-list-place.false), omega (arith, c.loop-low.invariant.1))

pub returns : goal.returns
returns c = halved_done c.loop-low.invariant.0 (omega arith)
