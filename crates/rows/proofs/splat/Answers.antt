-- `rows::splat` meets its contract.
-- Assumes nothing.
use Rattle.std.proofs.Common.{ap, sym, ◌∙◌}
use Rattle.lists.specs.Tab.{tab}
use Rattle.places.proofs.Elements.{numbers-fill}
use Rattle.rows.specs.Rows.{splat_of}
use Rattle.rows.proofs.splat.Goals as goal

pub returns : goal.returns
unfolding splat_of
returns g c =
    let m = g.met.E.Element in
    numbers-fill m.one_by_one _ _ ∙ ap (λ n. tab n (λ _. g.E.Element.number c.args.v)) (sym m.side_by_side)
