-- `listing::past` meets its contract.
-- Assumes nothing.
use mathlib.Core.Path.{ap, ap₂, ◌∙◌}
use Rattle.bodywise.specs.Cursor.{next_body}
use Rattle.listing.specs.Machine.{at_bodies}
use Rattle.listing.proofs.past.Goals as goal

pub returns : goal.returns
returns c =
    let args = c.args in
    let s = args.state in
    c.at_bodies.ensures
    ∙ ap₂ (λ x y. at_bodies s x.number x.at y.at)
    (c.next-left.ensures ∙ ap (next_body args.left_front.now) c.body_at.ensures)
    (c.next-right.ensures ∙ ap (next_body args.right_front.now) c.body_at-2.ensures)
