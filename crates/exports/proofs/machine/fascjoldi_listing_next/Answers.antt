-- `fascjoldi_listing_next` gives and leaves what `next` does on the state that the numbers tell.
-- Assumes nothing.
use mathlib.Core.Path.{ap, ◌∙◌}
use Rattle.wishes.specs.Runs.{Given, held}
use Rattle.listing.specs.declared.State.{State}
use Rattle.listing.specs.Machine.{turn_of, next_of}
use Rattle.exports.proofs.MachineHanded.{turn_on}
use Rattle.exports.proofs.machine.fascjoldi_listing_next.Goals as goal

pub returns : goal.returns
returns c =
    let args = c.args in
    let fronts-and-bodies = held args.left_front.now args.right_front.now args.left_body.now args.right_body.now in
    let is : State → Given State = λ s. next_of s fronts-and-bodies args.output.now in
    record { turn_handed = turn_on (c.next.ensures.value ∙ ap (λ s. turn_of (is s)) c.told.ensures) c.hand_turn.ensures; output_after = c.next.ensures.out_after ∙ ap (λ s. (is s).out) c.told.ensures }
