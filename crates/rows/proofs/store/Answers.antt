-- `rows::store` meets its contract.
-- Assumes nothing.
use Rattle.std.proofs.Common.{◌≡◌, length, sym, ap, ◌∙◌, zero-le, zero-add, arith, rules}
use Rattle.lists.specs.Tab.{over}
use Rattle.lists.proofs.Tabs.{tab_get_d}
use Rattle.places.proofs.Elements.{numbers-length, numbers-get, elements_none, elements_next}
use Rattle.rows.proofs.Rows.{store_short, store-room}
use Rattle.rows.proofs.store.Goals as goal

pub returns-then-out : goal.returns-then-out
returns-then-out g c =
    let one = g.met.E.Element.one_by_one in
    let long : length c.args.x ≡ g.row.LANES = search rules in
    store_short _ _ (omega (arith, numbers-length one c.args.out.now, numbers-length one c.args.x))

pub loop-l-init : goal.loop-l-init
loop-l-init g c = elements_none g.met.E.Element.one_by_one _ zero-le

pub loop-l-preserved : goal.loop-l-preserved
loop-l-preserved g c =
    let one = g.met.E.Element.one_by_one in
    let long : length c.args.x ≡ g.row.LANES = search rules in
    elements_next one c.loop-l.invariant _ _ (omega arith) (sym (zero-add _)) (sym (numbers-get one _ _ _ (omega (arith, long))))

pub returns : goal.returns
returns g c =
    let one = g.met.E.Element.one_by_one in
    let x = g.E.Element.numbers c.args.x in
    let out = g.E.Element.numbers c.args.out.now in
    let own : length c.args.x ≡ g.row.LANES = search rules in
    let long = numbers-length one c.args.x ∙ own in
    let e : c.loop-l.l ≡ g.row.LANES = omega arith in
    rw e at c.loop-l.invariant.is
    ∙ ap (λ y. over 0 y out) (tab_get_d x 0 g.row.LANES long)
    ∙ store-room out x (omega (arith, long, numbers-length one c.args.out.now))
