-- `deltas::copy_raised` meets its contract. The loop's invariant: the first r rows hold their values, raised by the
-- reference, and row r starts at `start`.
-- Assumes nothing.
use Rattle.std.proofs.Common.{ap₂, ◌∙◌, arith}
use Rattle.places.proofs.Elements.{numbers-length}
use Rattle.rows.specs.Rows.{add_of}
use Rattle.rows.proofs.Blocks.{laid_none, laid_next, laid_all, starts_first, starts_at, starts_room, starts_next}
use Rattle.packing.proofs.Walks.{copied_room, copied}
use Rattle.deltas.specs.Deltas.{unfor_pack_of}
use Rattle.deltas.proofs.Walks.{raised_row}
use Rattle.deltas.proofs.copy_raised.Goals as goal

pub loop-r-init : goal.loop-r-init
loop-r-init g c = (starts_first, laid_none (numbers-length g.met.E.Element.one_by_one _ ∙ c.requires.values_len))

pub row_at-requires : goal.row_at-requires
row_at-requires g c =
    let m = g.met.E.Element in
    (m.row_fits, rw (c.requires.packed_len, ← m.side_by_side) (copied_room m.size c.loop-r.r c.loop-r-test.true))

pub put_at-requires : goal.put_at-requires
put_at-requires g c =
    let m = g.met.E.Element in
    let inv = c.loop-r.invariant in
    (m.row_fits, omega (arith, starts_room m.size c.loop-r-test.true inv.0, inv.1.long, numbers-length m.one_by_one c.loop-r.values))

pub loop-r-preserved : goal.loop-r-preserved
loop-r-preserved g c =
    let m = g.met.E.Element in
    let inv = c.loop-r.invariant in
    let hr = c.loop-r-test.true in
    let row =
    c.wrapping_add.ensures
    ∙ ap₂ (add_of g.row.T) (copied m.size m.side_by_side _ c.are_elements.ensures hr c.row_at.ensures) c.splat-lift.ensures
    ∙ raised_row g.row.T _ _ in (
      starts_next m.size hr inv.0 c.next_start-start.ensures,
      laid_next m.size hr inv.1 (starts_at m.size hr inv.0) row c.put_at.ensures,
    )

pub returns : goal.returns
unfolding unfor_pack_of
returns g c = laid_all g.met.E.Element.size c.loop-r.invariant.1 (omega arith)
