-- `bodies::walks::raised_copy` meets its contract. The loop's invariant: the first r rows hold their values, raised by
-- the reference, and row r starts at `start`.
-- Assumes nothing.
use mathlib.Core.Path.{ap₂, ◌∙◌}
use Prim.Native.Nat.{◌*◌}
use native.Mathlib.Omega.{arith}
use Rattle.lists.specs.Numbers.{Elements}
use Rattle.places.specs.Sizes.{t64, lanes}
use Rattle.places.proofs.Places.{size64}
use Rattle.rows.specs.Rows.{add_of}
use Rattle.rows.proofs.Blocks.{laid_none, laid_next, laid_all}
use Rattle.rows.proofs.Blocks.{starts_first, starts_at, starts_room, starts_next}
use Rattle.packing.proofs.Walks.{copied_row}
use Rattle.deltas.specs.Deltas.{unfor_pack_of}
use Rattle.deltas.proofs.Walks.{raised_row}
use Rattle.bodies.specs.Bodies.{packed_from}
use Rattle.bodies.proofs.Blocks.{words_fit}
use Rattle.bodies.proofs.Bytes.{row_words}
use Rattle.bodies.proofs.walks.raised_copy.Goals as goal

pub loop-r-init : goal.loop-r-init
loop-r-init c = (starts_first, laid_none c.requires.values_len)

pub put_at-requires : goal.put_at-requires
put_at-requires c =
    let inv = c.loop-r.invariant in
    omega (arith, starts_room size64 c.loop-r-test.true inv.0, inv.1.long)

pub loop-r-preserved : goal.loop-r-preserved
loop-r-preserved c =
    let body = c.args.body.now in
    let fits : Elements 8 body = λ i. omega (arith, c.type_inv.body i) in
    let packed = packed_from body 0 t64 in
    let r = c.loop-r.r in
    let words = row_words body (128 * r) (lanes t64 * r) 1024 (omega arith) (omega arith) in
    let inv = c.loop-r.invariant in
    let hr = c.loop-r-test.true in
    let row =
    c.wrapping_add.ensures
    ∙ ap₂ (add_of t64) (c.row_of.ensures ∙ words ∙ copied_row size64 r packed (words_fit body 0 1024 fits) hr) c.splat-lift.ensures
    ∙ raised_row t64 _ _ in (
      starts_next size64 hr inv.0 c.next_start-start.ensures,
      laid_next size64 hr inv.1 (starts_at size64 hr inv.0) row c.put_at.ensures,
    )

pub returns : goal.returns
unfolding unfor_pack_of
returns c = laid_all size64 c.loop-r.invariant.1 (omega arith)
