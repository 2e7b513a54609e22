-- `deltas::frame_copy` meets its contract. The loop's invariant: the first r rows of words are the frame's, and row r
-- starts at `start`.
-- Assumes nothing.
use Rattle.std.proofs.Common.{◌≡◌, ◌*◌, length, sym, ap, ap₂, ◌∙◌, arith, rules}
use Rattle.lists.specs.Tab.{over}
use Rattle.places.proofs.Elements.{numbers-length}
use Rattle.rows.specs.Rows.{sub_of}
use Rattle.rows.proofs.Blocks.{starts_first, starts_at, starts_room, starts_next}
use Rattle.packing.proofs.Walks.{filled_none, filled_next, filled_all, copied_words, copied_room, copied_size}
use Rattle.deltas.specs.Deltas.{frame_of, for_pack_of}
use Rattle.deltas.proofs.Walks.{frame_row, frame_small}
use Rattle.deltas.proofs.frame_copy.Goals as goal

pub loop-r-init : goal.loop-r-init
loop-r-init g c =
    let m = g.met.E.Element in
    (starts_first, filled_none (numbers-length m.one_by_one _ ∙ c.requires.packed_len ∙ sym (copied_size m.size)))

pub row_at-requires : goal.row_at-requires
row_at-requires g c =
    let m = g.met.E.Element in
    (m.row_fits, omega (arith, starts_room m.size c.loop-r-test.true c.loop-r.invariant.0, c.requires.values_len))

pub put_at-requires : goal.put_at-requires
put_at-requires g c =
    let m = g.met.E.Element in
    let long : length c.loop-r.packed ≡ 1024 = search rules in
    (m.row_fits, rw (long, ← m.side_by_side) (copied_room m.size c.loop-r.r c.loop-r-test.true))

pub loop-r-preserved : goal.loop-r-preserved
loop-r-preserved g c =
    let m = g.met.E.Element in
    let values = g.E.Element.numbers c.args.values.now in
    let reference = g.E.Element.number c.args.reference in
    let r = c.loop-r.r in
    let hr = c.loop-r-test.true in
    let row =
    c.wrapping_sub.ensures
    ∙ ap₂ (sub_of g.row.T) c.row_at.ensures c.splat-low.ensures
    ∙ frame_row m.size r _ reference values hr (starts_at m.size hr c.loop-r.invariant.0)
    ∙ copied_words m.size r (frame_of g.row.T values reference) (frame_small m.size values reference) hr in (
      starts_next m.size hr c.loop-r.invariant.0 c.next_start-start.ensures,
      filled_next r hr c.loop-r.invariant.1 row
          (c.put_at.ensures ∙ ap (λ n. over (n * r) (g.E.Element.numbers c.wrapping_sub.result) (g.E.Element.numbers c.loop-r.packed)) (sym m.side_by_side)),
    )

pub returns : goal.returns
unfolding for_pack_of
returns g c = filled_all c.loop-r.r (omega arith) c.loop-r.invariant.1
