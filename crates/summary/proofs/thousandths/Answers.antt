-- `summary::thousandths` meets its contract.
-- Assumes nothing.
use mathlib.Core.Path.{sym, ap, ◌∙◌}
use Prim.Native.Nat.{◌*◌, ◌/◌}
use native.Mathlib.Nat.{div-zero}
use Rattle.summary.proofs.thousandths.Goals as goal

pub returns-then-rows-eq0 : goal.returns-then-rows-eq0
returns-then-rows-eq0 c =
    let bytes = c.args.bytes in
    sym (ap (λ rows. bytes * 1000 / rows) c.if-rows-eq0.true ∙ div-zero (bytes * 1000))
