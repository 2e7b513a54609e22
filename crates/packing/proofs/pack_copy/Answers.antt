-- `packing::pack_copy` meets its contract.
-- Assumes nothing.
use Rattle.std.proofs.Common.{◌≡◌, ◌*◌, length, sym, ap, ◌∙◌, arith, rules}
use Rattle.lists.specs.Tab.{over}
use Rattle.places.proofs.Elements.{numbers-length}
use Rattle.rows.proofs.Blocks.{row_from, starts_first, starts_at, starts_room, starts_next}
use Rattle.packing.proofs.Walks.{filled_none, filled_next, filled_all, copied_words, copied_room, copied_size}
use Rattle.packing.proofs.pack_copy.Goals as goal

pub loop-r-init : goal.loop-r-init
loop-r-init g c =
    let m = g.met.E.Element in
    (starts_first, filled_none (numbers-length m.one_by_one _ ∙ c.requires.packed_len ∙ sym (copied_size m.size)))

pub row_at-requires : goal.row_at-requires
row_at-requires g c =
    let m = g.met.E.Element in
    (m.row_fits, omega (arith, starts_room m.size c.loop-r-test.true c.loop-r.invariant.0, c.requires.values_len))

pub put_at-requires : goal.put_at-requires
put_at-requires g c =
    let m = g.met.E.Element in
    let long : length c.loop-r.packed ≡ 1024 = search rules in
    (m.row_fits, rw (long, ← m.side_by_side) (copied_room m.size c.loop-r.r c.loop-r-test.true))

pub loop-r-preserved : goal.loop-r-preserved
loop-r-preserved g c =
    let m = g.met.E.Element in
    let values = g.E.Element.numbers c.args.values.now in
    let inv = c.loop-r.invariant in
    let r = c.loop-r.r in
    let hr = c.loop-r-test.true in
    let row = c.row_at.ensures ∙ row_from g.row.T r _ values (starts_at m.size hr inv.0)
    ∙ copied_words m.size r values (λ p _. c.are_elements.ensures p) hr in
    let put = c.put_at.ensures ∙ ap (λ n. over (n * r) (g.E.Element.numbers c.row_at.result) (g.E.Element.numbers c.loop-r.packed)) (sym m.side_by_side) in (
      starts_next m.size hr inv.0 c.next_start-start.ensures,
      filled_next r hr inv.1 row put,
    )

pub returns : goal.returns
returns g c = filled_all c.loop-r.r (omega arith) c.loop-r.invariant.1
