-- `rows::mask` meets its contract.
-- Assumes nothing.
use Rattle.std.proofs.Common.{◌≡◌, ◌%◌, ◌^◌, length, refl, sym, ap₂, ◌∙◌, arith, zero-le, zero-add, rules}
use Rattle.places.specs.Sizes.{lanes}
use Rattle.places.proofs.Elements.{elements_none, elements-length, elements_later, elements_next, elements_all}
use Rattle.rows.specs.Rows.{mask_of}
use Rattle.rows.proofs.mask.Goals as goal

pub loop-v-init : goal.loop-v-init
loop-v-init g c = elements_none g.met.E.Element.one_by_one _ zero-le

pub loop-v-preserved : goal.loop-v-preserved
loop-v-preserved g c =
    let one = g.met.E.Element.one_by_one in
    let before = c.loop-v.invariant in
    let long : length c.args.x ≡ g.row.LANES = search rules in
    elements_next one before _ _ (omega arith) (sym (zero-add _))
    (c.low.ensures ∙ ap₂ (λ n k. n % 2 ^ k) (elements_later one before _ _ (omega arith) (omega (arith, elements-length one before))) refl)

pub returns : goal.returns
unfolding mask_of
returns g c =
    let side = g.met.E.Element.side_by_side in
    let long : length c.args.x ≡ g.row.LANES = search rules in
    elements_all g.met.E.Element.one_by_one c.loop-v.invariant (lanes g.row.T) (omega (arith, side)) (omega (arith, side))
