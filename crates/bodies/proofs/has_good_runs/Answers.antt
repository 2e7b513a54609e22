-- `bodies::has_good_runs` meets its contract: a body of another kind has no run indices, and else the highest one is
-- looked at.
-- Assumes nothing.
use mathlib.Core.Path.{sym, ap, ◌∙◌}
use native.Mathlib.Omega.{arith}
use lib.Dec.{ltb}
use Rattle.contents.proofs.Laid.{laid_runs}
use Rattle.bodies.specs.Bodies.{value_count}
use Rattle.bodies.proofs.Bodies.{indexed-high, other-runs, runs-runs}
use Rattle.bodies.proofs.has_good_runs.Goals as goal

pub returns-then-e-ne3 : goal.returns-then-e-ne3
returns-then-e-ne3 c =
    let args = c.args in
    sym (other-runs args.e args.body.now c.if-e-ne3.true)

pub overflow_sub-n : goal.overflow_sub-n
overflow_sub-n c = omega (arith, laid_runs c.args.e c.requires.e_value c.if-e-ne3.false)

pub highest_index-requires : goal.highest_index-requires
highest_index-requires c = omega (arith, laid_runs c.args.e c.requires.e_value c.if-e-ne3.false)

pub returns : goal.returns
returns c =
    let args = c.args in
    let e = args.e in
    let body = args.body.now in
    ap (λ x. ltb x (value_count e)) c.highest_index.ensures ∙ sym (runs-runs e body c.if-e-ne3.false ∙ indexed-high (value_count e) body)
