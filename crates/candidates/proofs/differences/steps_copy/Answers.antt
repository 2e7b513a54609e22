-- `candidates::differences::steps_copy` meets its contract. The loop's invariant: the first r rows of words are those
-- of the differences, row r starts at `start`, and the row before it at `before`.
-- Assumes nothing.
use Rattle.std.proofs.Common.{◌∙◌, ap₂, arith}
use Rattle.places.specs.Sizes.{t64}
use Rattle.places.proofs.Places.{size64}
use Rattle.rows.specs.Rows.{sub_of}
use Rattle.rows.proofs.Blocks.{starts_first, starts_at, starts_room, starts_next}
use Rattle.packing.proofs.Walks.{filled_none, filled_next, filled_all, copied_words}
use Rattle.candidates.specs.Candidates.{differences}
use Rattle.candidates.proofs.Steps.{before-first, before-next, before-room, step_row, step_small}
use Rattle.candidates.proofs.differences.steps_copy.Goals as goal

pub loop-r-init : goal.loop-r-init
loop-r-init c = (starts_first, before-first, filled_none c.requires.packed_len)

pub row_at-requires : goal.row_at-requires
row_at-requires c = omega (arith, starts_room size64 c.loop-r-test.true c.loop-r.invariant.0)

pub row_at-requires-in-loop-r : goal.row_at-requires-in-loop-r
row_at-requires-in-loop-r c =
    omega (arith, before-room c.loop-r.r c.loop-r.before (omega arith) c.loop-r.invariant.1)

pub put_at-requires : goal.put_at-requires
put_at-requires c = omega (arith, c.loop-r.invariant.2.fits)

pub loop-r-preserved : goal.loop-r-preserved
loop-r-preserved c =
    let values = c.args.values.now in
    let r = c.loop-r.r in
    let hr = c.loop-r-test.true in
    let row =
    c.wrapping_sub.ensures
    ∙ ap₂ (sub_of t64) c.row_at.ensures c.row_at-in-loop-r.ensures
    ∙ step_row values r _ _ hr (starts_at size64 hr c.loop-r.invariant.0) c.loop-r.invariant.1
    ∙ copied_words size64 r (differences values) (step_small values) hr in (
      starts_next size64 hr c.loop-r.invariant.0 c.next_start-start.ensures,
      before-next hr c.loop-r.invariant.0,
      filled_next r hr c.loop-r.invariant.2 row c.put_at.ensures,
    )

pub returns : goal.returns
returns c = filled_all c.loop-r.r (omega arith) c.loop-r.invariant.2
