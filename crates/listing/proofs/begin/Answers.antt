-- `listing::begin` meets its contract.
-- Assumes nothing.
use mathlib.Core.Path.{ap, ap₂, ◌∙◌}
use Rattle.listing.specs.Machine.{at_bodies, between}
use Rattle.listing.proofs.begin.Goals as goal

pub returns : goal.returns
returns c =
    let s = c.args.state in
    c.between.ensures
    ∙ ap (λ s. between s 0 0)
    (c.at_bodies.ensures ∙ ap₂ (λ x y. at_bodies s _ x.at y.at) c.first-left.ensures c.first-right.ensures)
