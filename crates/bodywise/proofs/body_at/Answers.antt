-- `bodywise::body_at` meets its contract.
-- Assumes nothing.
use mathlib.Core.Path.{ap}
use Rattle.bodywise.proofs.body_at.Goals as goal

pub returns : goal.returns
returns c =
    let args = c.args in ap (λ e. record { number = args.number; at = args.at; entry = e }) c.entry_or.ensures
