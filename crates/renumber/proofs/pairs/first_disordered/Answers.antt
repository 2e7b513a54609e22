-- `renumber::pairs::first_disordered` meets its contract: the order is right at every place that was passed.
-- Assumes nothing.
use borrow.Author.Count.{below_more}
use Rattle.renumber.proofs.Tested.{ordered_there, disordered-found, disordered-none}
use mathlib.Core.Path.{sym, ◌∙◌}
use Prim.Native.Nat.{◌-◌}
use native.Mathlib.Omega.{arith}
use Rattle.renumber.proofs.pairs.first_disordered.Goals as goal

pub loop-i-init : goal.loop-i-init
loop-i-init c = λ k h. absurd (omega arith)

pub is_ordered-requires : goal.is_ordered-requires
is_ordered-requires c =
    record { i_in_bounds = omega arith; i_in_bounds_2 = λ h. ordered_there c.args.new.now c.args.order.now (c.loop-i.i - 1) (c.loop-i.invariant (c.loop-i.i - 1) (omega arith)) }

pub returns-then-not-is_ordered : goal.returns-then-not-is_ordered
returns-then-not-is_ordered c =
    disordered-found c.args.new.now c.args.order.now c.loop-i.i (omega arith) c.loop-i.invariant (sym c.is_ordered.ensures ∙ c.if-not-is_ordered.true)

pub loop-i-preserved : goal.loop-i-preserved
loop-i-preserved c =
    below_more _ _ c.loop-i.invariant (sym c.is_ordered.ensures ∙ c.if-not-is_ordered.false)

pub returns : goal.returns
returns c =
    disordered-none c.args.new.now c.args.order.now _ (omega arith) (λ k h. c.loop-i.invariant k (omega arith)) (omega arith)
