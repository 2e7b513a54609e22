-- `rows::load` meets its contract.
-- Assumes nothing.
use Rattle.std.proofs.Common.{◌≡◌, length, sym, ap, ◌∙◌, zero-le, zero-add, arith, replicate}
use Rattle.std.proofs.lemmas.List.{length-replicate}
use Rattle.lists.specs.Tab.{tab}
use Rattle.places.specs.Sizes.{lanes}
use Rattle.places.proofs.Elements.{numbers-length, numbers-at, numbers-fill, elements_none, elements_next, elements_all}
use Rattle.rows.specs.Rows.{splat_of}
use Rattle.rows.proofs.Rows.{load_short, load-room}
use Rattle.rows.proofs.load.Goals as goal

pub returns-then-source : goal.returns-then-source
unfolding splat_of
returns-then-source g c =
    let m = g.met.E.Element in
    let long = numbers-length m.one_by_one c.args.source.now in
    let zeros = numbers-fill m.one_by_one g.row.LANES c.of-x.result
    ∙ ap (λ n. tab n (λ _. g.E.Element.number c.of-x.result)) (sym m.side_by_side) in
    rw c.of-x.ensures at zeros ∙ load_short g.row.T (g.E.Element.numbers c.args.source.now) (omega (arith, long, m.side_by_side))

pub loop-l-init : goal.loop-l-init
loop-l-init g c = elements_none g.met.E.Element.one_by_one _ zero-le

pub loop-l-preserved : goal.loop-l-preserved
loop-l-preserved g c =
    let one = g.met.E.Element.one_by_one in
    let full : length (replicate g.row.LANES c.of-x.result) ≡ g.row.LANES = length-replicate _ _ in
    elements_next one c.loop-l.invariant _ _ (omega arith) (sym (zero-add _)) (numbers-at one _ _ c.index-source-l.is (omega arith))

pub returns : goal.returns
returns g c =
    let m = g.met.E.Element in
    let long = numbers-length m.one_by_one c.args.source.now in
    elements_all m.one_by_one c.loop-l.invariant (lanes g.row.T) (omega (arith, m.side_by_side)) (length-replicate _ _ ∙ sym m.side_by_side)
    ∙ load-room g.row.T (g.E.Element.numbers c.args.source.now) (omega (arith, long, m.side_by_side))
