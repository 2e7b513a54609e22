-- `listing::ask_again` meets its contract.
-- Assumes nothing.
use mathlib.Core.Path.{ap, ◌∙◌}
use Rattle.listing.specs.declared.Stage.TheVariants.{Again}
use Rattle.listing.specs.Machine.{turn_to, body_wish}
use Rattle.listing.proofs.ask_again.Goals as goal

pub returns : goal.returns
returns c =
    let args = c.args in
    c.turn_to.ensures ∙ ap (turn_to args.state (Again args.side)) (c.body_wish.ensures ∙ ap (body_wish args.side) c.body_at-body.ensures)
