-- `bodies::walks::raised_split` meets its contract. The loops' invariants: the first rows hold their values, raised by
-- the reference, and the walk stands where the next one begins.
-- Assumes nothing.
use mathlib.Core.Path.{◌≡◌, ap, ap₂, ◌∙◌}
use Prim.Native.Nat.{◌+◌, ◌*◌, ◌≤◌, ◌<◌}
use native.Mathlib.Nat.{add-zero, add_assoc}
use native.Mathlib.Omega.{arith}
use lib.ListN.{length}
use Rattle.lists.specs.Numbers.{Elements}
use Rattle.places.specs.Sizes.{t64}
use Rattle.places.proofs.Places.{size64}
use Rattle.rows.specs.Rows.{shr_of, or_shl_of, add_of}
use Rattle.rows.proofs.Blocks.{laid_none, laid_put, laid_all, start_in}
use Rattle.deltas.specs.Deltas.{unfor_pack_of}
use Rattle.deltas.proofs.Walks.{raised_row}
use Rattle.bodies.proofs.Bytes.{stands-first, stands-lt, stands-room, stands-room_two, stands-next}
use Rattle.bodies.proofs.Bytes.{ReadFrom, from_within, from_full, from_over}
use Rattle.bodies.proofs.walks.raised_split.Goals as goal
use Rattle.bodies.proofs.walks.raised_split.Goals.{In-loop-i, Joined-s-ge-T, then-s-ge-T+then-s-gt0, then-s-ge-T+else-s-gt0, else-s-ge-T}

pub loop-o-init : goal.loop-o-init
loop-o-init c = (stands-first _, laid_none c.requires.values_len)

pub loop-i-init : goal.loop-i-init
loop-i-init c = (rw add-zero c.loop-o.invariant.0, rw add-zero c.loop-o.invariant.1)

-- a turn of the inner loop: its row is one of the block's, and begins in words that lie within the body
row_lt : (c : In-loop-i) → c.loop-o.o * 8 + c.loop-i.i < t64
row_lt c = omega arith

first-room : (c : In-loop-i) → c.loop-i.at + 128 ≤ length c.args.body.now
first-room c = omega (arith, stands-room (row_lt c) c.requires.width_nonzero.0 c.loop-i.invariant.0)

bit-lt : (c : In-loop-i) → c.loop-i.s < t64
bit-lt c = stands-lt (row_lt c) c.requires.width_nonzero.0 c.loop-i.invariant.0

pub row_of-requires : goal.row_of-requires
row_of-requires c = first-room (goal.at.row_of-requires c).In-loop-i

pub overflow_add-s : goal.overflow_add-s
overflow_add-s c = omega (arith, bit-lt (goal.at.overflow_add-s c).In-loop-i)

pub overflow_add-at : goal.overflow_add-at
overflow_add-at c = omega (arith, first-room (goal.at.overflow_add-at c).In-loop-i)

pub row_of-requires-then-s-gt0 : goal.row_of-requires-then-s-gt0
row_of-requires-then-s-gt0 c =
    omega (arith, stands-room_two (row_lt (goal.at.row_of-requires-then-s-gt0 c).In-loop-i) c.requires.width_nonzero.0 c.loop-i.invariant.0 (omega arith))

pub overflow_sub-width : goal.overflow_sub-width
overflow_sub-width c = omega (arith, bit-lt (goal.at.overflow_sub-width c).In-loop-i)

pub put_at-requires : goal.put_at-requires
put_at-requires c =
    rw c.loop-i.invariant.1.long
    (start_in size64 _ _ _ c.loop-i-test.true (row_lt (goal.at.put_at-requires c).In-loop-i) c.row_start.ensures)

-- the row is read
is_read : (c : Joined-s-ge-T)
    → ReadFrom c.args.width (c.loop-o.o * 8 + c.loop-i.i) c.args.body.now
    c.if-s-ge-T.row c.if-s-ge-T.s c.if-s-ge-T.at
is_read c =
    let body = c.args.body.now in
    let fits : Elements 8 body = λ i. omega (arith, c.type_inv.body i) in
    let at = c.loop-i.invariant.0 in
    let hr = (let it : c.loop-o.o * 8 + c.loop-i.i < t64 = omega arith in it) in
    let first = c.shr-row.ensures ∙ ap (λ x. shr_of t64 x c.loop-i.s) c.row_of.ensures in
    elim c.if-s-ge-T.branch [
      | then-s-ge-T+then-s-gt0 w ↦
          from_over hr c.requires.width_nonzero.0 c.requires.width_nonzero.1 at body fits first (omega arith) w.s-is w.at-is
          (w.row-is ∙ w.or_shl-both.ensures ∙ ap (λ x. or_shl_of t64 _ x _) w.row_of-then-s-gt0.ensures)
      | then-s-ge-T+else-s-gt0 w ↦
          from_full hr c.requires.width_nonzero.0 c.requires.width_nonzero.1 at body fits (w.row-is ∙ first) (omega arith) w.s-is w.at-is
      | else-s-ge-T w ↦
          from_within hr c.requires.width_nonzero.0 c.requires.width_nonzero.1 at body fits (w.row-is ∙ first) w.if-s-ge-T.false w.s-is w.at-is
    ]

pub loop-i-preserved : goal.loop-i-preserved
loop-i-preserved c =
    let read = is_read (goal.at.loop-i-preserved c).Joined-s-ge-T in
    let next = add_assoc (c.loop-o.o * 8) c.loop-i.i 1 in (
      rw next at (stands-next read),
      laid_put size64 _ _ _ c.loop-i-test.true (row_lt (goal.at.loop-i-preserved c).In-loop-i) c.row_start.ensures
          c.loop-i.invariant.1
          (c.wrapping_add.ensures
          ∙ ap₂ (add_of t64) (c.mask.ensures ∙ read.read.cut) c.splat-lift.ensures
          ∙ raised_row t64 _ _)
          c.put_at.ensures,
    )

pub loop-o-preserved : goal.loop-o-preserved
loop-o-preserved c =
    let o = c.loop-o.o in
    let inv = c.loop-i.invariant in
    let next : o * 8 + c.loop-i.i ≡ (o + 1) * 8 = omega arith in
    (rw next at inv.0, rw next at inv.1)

pub returns : goal.returns
unfolding unfor_pack_of
returns c = laid_all size64 c.loop-o.invariant.1 (omega arith)
