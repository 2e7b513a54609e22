-- `listing::ask_front` meets its contract.
-- Assumes nothing.
use mathlib.Core.Path.{ap, ◌∙◌}
use Rattle.wishes.specs.declared.Part.TheVariants.{Front as OfFront}
use Rattle.wishes.specs.declared.Wish.TheVariants.{Read}
use Rattle.listing.specs.declared.Stage.TheVariants.{Front}
use Rattle.listing.specs.Machine.{turn_to}
use Rattle.listing.proofs.ask_front.Goals as goal

pub returns : goal.returns
returns c =
    let args = c.args in
    c.turn_to.ensures ∙ ap (λ n. turn_to args.state (Front args.side) (Read args.side OfFront 0 n)) c.front_length-n.ensures
