-- `listing::refuse` meets its contract.
-- Assumes nothing.
use mathlib.Core.Path.{ap, ◌∙◌}
use Rattle.wishes.specs.declared.Wish.TheVariants.{Write}
use Rattle.listing.specs.declared.Stage.TheVariants.{End}
use Rattle.listing.specs.Machine.{turn_to, refusal}
use Rattle.listing.proofs.refuse.Goals as goal

pub returns : goal.returns
unfolding refusal
returns c =
    record { value = c.turn_to.ensures ∙ ap (λ n. turn_to c.args.state End (Write n)) c.put_refusal-line.ensures.value; out_after = c.put_refusal-line.ensures.out_after }
