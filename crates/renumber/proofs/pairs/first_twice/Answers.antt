-- `renumber::pairs::first_twice` meets its contract: equal numbers stand side by side along the order.
-- Assumes nothing.
use mathlib.Core.Path.{sym, subst, ◌∙◌}
use Prim.Native.Nat.{◌+◌, ◌-◌}
use Rattle.renumber.proofs.Twins.{Twins, twins_none, twins_other, twins_equal, twins_all}
use native.Mathlib.Omega.{arith}
use Rattle.renumber.proofs.pairs.first_twice.Goals as goal
use Rattle.renumber.proofs.pairs.first_twice.Goals.{then-new-p, else-new-p}

pub loop-i-init : goal.loop-i-init
loop-i-init c = twins_none c.args.new.now c.args.order.now

pub offset_bounds-new-p : goal.offset_bounds-new-p
offset_bounds-new-p c = omega (arith, c.requires.places (c.loop-i.i - 1) (omega arith))

pub bounds-new-p : goal.bounds-new-p
bounds-new-p c = c.requires.places (c.loop-i.i - 1) (omega arith)

pub offset_bounds-new-q : goal.offset_bounds-new-q
offset_bounds-new-q c = omega (arith, c.requires.places c.loop-i.i (omega arith))

pub bounds-new-q : goal.bounds-new-q
bounds-new-q c = c.requires.places c.loop-i.i (omega arith)

pub loop-i-preserved : goal.loop-i-preserved
loop-i-preserved c =
    let loop = c.loop-i in
    let args = c.args in
    elim c.if-new-p.branch [
      | then-new-p w ↦
          twins_equal loop.invariant (omega arith) c.if-new-p.low (w.low-is ∙ w.lower-low.ensures) w.if-new-p.true
      | else-new-p w ↦
          subst (λ v. Twins args.new.now args.order.now v (loop.i + 1)) (sym w.low-is) (twins_other loop.invariant (omega arith) w.if-new-p.false)
    ]

pub returns : goal.returns
returns c = twins_all c.requires c.loop-i.invariant (omega arith)
