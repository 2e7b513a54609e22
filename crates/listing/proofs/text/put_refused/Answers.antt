-- `listing::text::put_refused` meets its contract, by the side.
-- Assumes nothing.
use mathlib.Core.Path.{sym, ap, ◌∙◌}
use lib.ListN.{length}
use Rattle.lists.specs.Tab.{over}
use Rattle.listing.specs.Text.{refused_text}
use Rattle.listing.proofs.text.put_refused.Goals as goal

pub returns-in-Left : goal.returns-in-Left
returns-in-Left c =
    let told = c.in-Left.is in record { value = c.put_text.ensures.value ∙ sym (ap (λ x. length (refused_text x)) told); out_after = c.put_text.ensures.out_after ∙ sym (ap (λ x. over 0 (refused_text x) c.args.out.now) told) }

pub returns-in-Right : goal.returns-in-Right
returns-in-Right c =
    let told = c.in-Right.is in record { value = c.put_text-in-Right.ensures.value ∙ sym (ap (λ x. length (refused_text x)) told); out_after = c.put_text-in-Right.ensures.out_after ∙ sym (ap (λ x. over 0 (refused_text x) c.args.out.now) told) }
