-- `bodies::walks::summed_copy` meets its contract. The loop's invariant: the first r rows are summed, prev is the last of
-- them, and row r starts at `start`.
-- Assumes nothing.
use mathlib.Core.Path.{sym, ◌∙◌}
use Prim.Native.Nat.{◌*◌}
use native.Mathlib.Omega.{arith}
use Rattle.lists.specs.Numbers.{Elements}
use Rattle.places.specs.Sizes.{t64, lanes}
use Rattle.places.proofs.Places.{size64}
use Rattle.rows.proofs.Blocks.{starts_first, starts_at, starts_room, starts_next}
use Rattle.packing.proofs.Walks.{copied_row}
use Rattle.deltas.proofs.Restores.{undelta-pack-is}
use Rattle.deltas.proofs.Walks.{summing_none, summing_next, summing_all, unpacked_row}
use Rattle.bodies.specs.Bodies.{packed_from}
use Rattle.bodies.proofs.Blocks.{words_fit}
use Rattle.bodies.proofs.Bytes.{row_words}
use Rattle.bodies.proofs.walks.summed_copy.Goals as goal

pub loop-r-init : goal.loop-r-init
loop-r-init c =
    (starts_first, summing_none c.requires.base_len c.requires.values_len c.load-prev.ensures)

pub put_at-requires : goal.put_at-requires
put_at-requires c =
    let inv = c.loop-r.invariant in
    omega (arith, starts_room size64 c.loop-r-test.true inv.0, inv.1.laid.long)

pub loop-r-preserved : goal.loop-r-preserved
loop-r-preserved c =
    let body = c.args.body.now in
    let fits : Elements 8 body = λ i. omega (arith, c.type_inv.body i) in
    let packed = packed_from body 0 t64 in
    let r = c.loop-r.r in
    let words = row_words body (128 * r) (lanes t64 * r) 1024 (omega arith) (omega arith) in
    let inv = c.loop-r.invariant in
    let hr = c.loop-r-test.true in
    let row = c.row_of.ensures ∙ words ∙ copied_row size64 r packed (words_fit body 0 1024 fits) hr ∙ unpacked_row size64 t64 _ packed hr in (
      starts_next size64 hr inv.0 c.next_start-start.ensures,
      summing_next size64 hr inv.1 (starts_at size64 hr inv.0) row c.wrapping_add-next.ensures
          c.put_at.ensures,
    )

pub returns : goal.returns
returns c =
    let args = c.args in
    summing_all size64 c.loop-r.invariant.1 (omega arith)
    ∙ sym (undelta-pack-is size64 t64 (packed_from args.body.now 0 t64) args.base.now)
