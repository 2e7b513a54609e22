-- `trickle::copy_in` meets its contract. The loop's invariant: the first i bytes are written.
-- Assumes nothing.
use mathlib.Core.Path.{◌≡◌, refl, sym, ap, ◌∙◌}
use native.Mathlib.Omega.{arith}
use lib.ListN.{get_or}
use Rattle.lists.specs.Tab.{tab, over}
use Rattle.lists.proofs.Tabs.{written_none, written_next, written-length}
use Rattle.trickle.proofs.Fronts.{take-tab}
use Rattle.trickle.proofs.copy_in.Goals as goal

pub loop-i-init : goal.loop-i-init
loop-i-init c = written_none (omega arith)

pub bounds-to-at : goal.bounds-to-at
bounds-to-at c = omega (arith, written-length c.loop-i.invariant)

pub loop-i-preserved : goal.loop-i-preserved
loop-i-preserved c = written_next c.loop-i.invariant _ _ (omega arith) refl refl

pub returns : goal.returns
returns c =
    let e : c.loop-i.i ≡ c.args.n = omega arith in
    let w = c.loop-i.invariant in
    w.is ∙ ap (λ l. over c.args.at l c.args.to.now)
    (ap (λ k. tab k (λ j. get_or c.args.from.now j 0)) e ∙ sym (take-tab c.args.from.now c.args.n c.requires.n_in_bounds_2))
