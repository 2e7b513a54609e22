-- `compare::change_at` meets its contract.
-- Assumes nothing.
use mathlib.Core.Path.{ap₂}
use Prim.Native.Nat.{◌+◌, ◌*◌}
use Rattle.compare.proofs.change_at.Goals as goal

pub returns : goal.returns
returns c =
    let args = c.args in
    ap₂ (λ l r. record { row = args.i * 1024 + args.p; left = l; right = r }) c.number_at.ensures c.number_at-2.ensures
