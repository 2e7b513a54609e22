-- `listing::ask_body` meets its contract.
-- Assumes nothing.
use mathlib.Core.Path.{ap₂, ◌∙◌}
use Rattle.listing.specs.declared.Stage.TheVariants.{Checking}
use Rattle.listing.specs.Machine.{turn_to}
use Rattle.listing.proofs.ask_body.Goals as goal

pub returns : goal.returns
returns c =
    let args = c.args in
    c.turn_to.ensures ∙ ap₂ (λ s w. turn_to s (Checking args.side) w) c.at_body-there.ensures c.body_wish.ensures
