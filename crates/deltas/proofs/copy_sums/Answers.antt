-- `deltas::copy_sums` meets its contract. The loop's invariant: the first r rows are summed, prev is the last of them,
-- and row r starts at `start`.
-- Assumes nothing.
use Rattle.std.proofs.Common.{sym, ◌∙◌, arith}
use Rattle.places.proofs.Elements.{numbers-length}
use Rattle.rows.proofs.Blocks.{starts_first, starts_at, starts_room, starts_next}
use Rattle.packing.proofs.Walks.{copied_room, copied}
use Rattle.deltas.proofs.Restores.{undelta-pack-is}
use Rattle.deltas.proofs.Walks.{summing_none, summing_next, summing_all, unpacked_row}
use Rattle.deltas.proofs.copy_sums.Goals as goal

pub loop-r-init : goal.loop-r-init
loop-r-init g c =
    let m = g.met.E.Element in
    let long = numbers-length m.one_by_one in
    (starts_first, summing_none (long _ ∙ c.requires.base_len) (long _ ∙ c.requires.values_len) c.load-prev.ensures)

pub row_at-requires : goal.row_at-requires
row_at-requires g c =
    let m = g.met.E.Element in
    (m.row_fits, rw (c.requires.packed_len, ← m.side_by_side) (copied_room m.size c.loop-r.r c.loop-r-test.true))

pub put_at-requires : goal.put_at-requires
put_at-requires g c =
    let m = g.met.E.Element in
    let inv = c.loop-r.invariant in
    (m.row_fits, omega (arith, starts_room m.size c.loop-r-test.true inv.0, inv.1.laid.long, numbers-length m.one_by_one c.loop-r.values))

pub loop-r-preserved : goal.loop-r-preserved
loop-r-preserved g c =
    let m = g.met.E.Element in
    let inv = c.loop-r.invariant in
    let hr = c.loop-r-test.true in
    let row = copied m.size m.side_by_side _ c.are_elements.ensures hr c.row_at.ensures ∙ unpacked_row m.size g.row.T _ _ hr in (
      starts_next m.size hr inv.0 c.next_start-start.ensures,
      summing_next m.size hr inv.1 (starts_at m.size hr inv.0) row c.wrapping_add-next.ensures c.put_at.ensures,
    )

pub returns : goal.returns
returns g c = summing_all g.met.E.Element.size c.loop-r.invariant.1 (omega arith) ∙ sym (undelta-pack-is g.met.E.Element.size g.row.T _ _)
