-- `rows::or_shl` meets its contract.
-- Assumes nothing.
use Rattle.std.proofs.Common.{◌≡◌, ◌*◌, ◌%◌, ◌^◌, bit_or, length, sym, ap, ap₂, ◌∙◌, arith, zero-le, zero-add, rules}
use Rattle.places.specs.Sizes.{lanes}
use Rattle.places.proofs.Elements.{elements_none, elements-length, elements_later, elements_next, elements_all, numbers-get}
use Rattle.rows.specs.Rows.{or_shl_of}
use Rattle.rows.proofs.or_shl.Goals as goal

pub loop-l-init : goal.loop-l-init
loop-l-init g c = elements_none g.met.E.Element.one_by_one _ zero-le

pub loop-l-preserved : goal.loop-l-preserved
loop-l-preserved g c =
    let one = g.met.E.Element.one_by_one in
    let before = c.loop-l.invariant in
    let long : length c.args.x ≡ g.row.LANES = search rules in
    let other : length c.args.y ≡ g.row.LANES = search rules in
    elements_next one before _ _ (omega arith) (sym (zero-add _))
    (c.or.ensures
    ∙ ap₂ bit_or (elements_later one before _ _ (omega arith) (omega (arith, elements-length one before)))
    (c.shl.ensures ∙ ap (λ n. n * 2 ^ (c.args.s % g.row.T) % 2 ^ g.row.T) (sym (numbers-get one _ _ _ (omega (arith, other))))))

pub returns : goal.returns
unfolding or_shl_of
returns g c =
    let side = g.met.E.Element.side_by_side in
    let long : length c.args.x ≡ g.row.LANES = search rules in
    elements_all g.met.E.Element.one_by_one c.loop-l.invariant (lanes g.row.T) (omega (arith, side)) (omega (arith, side))
