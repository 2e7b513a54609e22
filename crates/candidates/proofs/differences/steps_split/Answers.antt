-- `candidates::differences::steps_split` meets its contract. The invariant of both loops: before row r of the
-- differences, the words that are full stand in the packed block, the others are held, and the row before starts at
-- `before`. A turn of the inner loop leaves room in its words, so there is a next row.
-- Assumes nothing.
use Rattle.std.proofs.Common.{◌≡◌, ℕ, ◌+◌, ◌-◌, ◌<◌, ◌≤◌, List, length, sym, ap, ◌∙◌, ap₂, arith, rules}
use Rattle.places.specs.Sizes.{t64, lanes}
use Rattle.places.proofs.Places.{size64}
use Rattle.rows.specs.Rows.{shr_of, or_shl_of, mask_of, sub_of}
use Rattle.rows.proofs.Blocks.{row_from_lem, row_of, starts_at, starts_room}
use Rattle.packing.proofs.Walks.{at_lt, at_room, row_more, packing_on, packing-full, packing-none, packing_all}
use Rattle.candidates.specs.Candidates.{differences}
use Rattle.candidates.proofs.Steps.{before-first, before-next, before-room, step_row}
use Rattle.candidates.proofs.differences.steps_split.Goals as goal
use Rattle.candidates.proofs.differences.steps_split.Goals.{At-loop-s}

pub loop-r-init : goal.loop-r-init
loop-r-init c =
    (search rules, before-first, packing-none t64 _ _ _ _ c.requires.packed_len c.splat-held.ensures)

pub loop-s-init : goal.loop-s-init
loop-s-init c = (search rules, c.loop-r-test.true, c.loop-r.invariant.1, c.loop-r.invariant.2)

row_room : (c : At-loop-s) → c.loop-s.start + lanes t64 ≤ length c.args.values.now
row_room c =
    let inv = c.loop-s.invariant in
    omega (arith, starts_room size64 inv.1 inv.3.starts, c.requires.values_len)

previous-room : (c : At-loop-s) → c.loop-s.before + lanes t64 ≤ length c.args.values.now
previous-room c =
    let inv = c.loop-s.invariant in
    omega (arith, before-room c.loop-s.r c.loop-s.before (omega arith) inv.2, c.requires.values_len)

bit-lt : (c : At-loop-s) → c.loop-s.s < t64
bit-lt c = at_lt size64 c.loop-s.invariant.1 c.requires.width_nonzero.0 c.loop-s.invariant.3.stands

-- the row that starts at a place, less the row before, is a row of the differences
is-step : (c : At-loop-s) {x y z : List ℕ} → x ≡ row_from_lem t64 c.args.values.now c.loop-s.start
    → y ≡ row_from_lem t64 c.args.values.now c.loop-s.before
    → z ≡ sub_of t64 x y
    → z ≡ row_of t64 (differences c.args.values.now) c.loop-s.r
is-step c ex ey ez =
    ez ∙ ap₂ (sub_of t64) ex ey
    ∙ step_row c.args.values.now c.loop-s.r c.loop-s.start c.loop-s.before c.loop-s.invariant.1
    (starts_at size64 c.loop-s.invariant.1 c.loop-s.invariant.3.starts)
    c.loop-s.invariant.2

pub row_at-requires : goal.row_at-requires
row_at-requires c = row_room (goal.at.row_at-requires c).At-loop-s

pub row_at-requires-in-loop-s : goal.row_at-requires-in-loop-s
row_at-requires-in-loop-s c = previous-room (goal.at.row_at-requires-in-loop-s c).At-loop-s

pub overflow_add-s : goal.overflow_add-s
overflow_add-s c = omega (arith, bit-lt (goal.at.overflow_add-s c).At-loop-s)

pub loop-s-preserved : goal.loop-s-preserved
loop-s-preserved c =
    let inv = c.loop-s.invariant in
    let less : c.loop-s.s + c.args.width < t64 = omega (arith, c.loop-s-test.true) in
    let row = is-step (goal.at.loop-s-preserved c).At-loop-s c.row_at.ensures c.row_at-in-loop-s.ensures c.wrapping_sub.ensures in (
      omega arith,
      row_more size64 inv.1 c.requires.width_nonzero.0 inv.3.stands less,
      before-next inv.1 inv.3.starts,
      packing_on size64 inv.1 c.requires.width_nonzero.0 c.requires.width_nonzero.1 inv.3 row c.next_start-start.ensures less
          (c.or_shl-more.ensures ∙ ap (λ x. or_shl_of t64 c.loop-s.held x c.loop-s.s) c.mask.ensures),
    )

pub row_at-requires-in-loop-r : goal.row_at-requires-in-loop-r
row_at-requires-in-loop-r c = row_room (goal.at.row_at-requires-in-loop-r c).At-loop-s

pub row_at-requires-in-loop-r-2 : goal.row_at-requires-in-loop-r-2
row_at-requires-in-loop-r-2 c = previous-room (goal.at.row_at-requires-in-loop-r-2 c).At-loop-s

pub put_at-requires : goal.put_at-requires
put_at-requires c =
    let inv = c.loop-s.invariant in
    omega (arith, at_room size64 inv.1 c.requires.width_nonzero.0 inv.3.stands, inv.3.filled.fits)

pub row_at-requires-in-loop-r-3 : goal.row_at-requires-in-loop-r-3
row_at-requires-in-loop-r-3 c = row_room (goal.at.row_at-requires-in-loop-r-3 c).At-loop-s

pub row_at-requires-in-loop-r-4 : goal.row_at-requires-in-loop-r-4
row_at-requires-in-loop-r-4 c = previous-room (goal.at.row_at-requires-in-loop-r-4 c).At-loop-s

pub overflow_sub-s : goal.overflow_sub-s
overflow_sub-s c = omega (arith, bit-lt (goal.at.overflow_sub-s c).At-loop-s)

pub overflow_add-word : goal.overflow_add-word
overflow_add-word c =
    let inv = c.loop-s.invariant in
    omega (arith, at_room size64 inv.1 c.requires.width_nonzero.0 inv.3.stands)

pub loop-r-preserved : goal.loop-r-preserved
loop-r-preserved c =
    let w = c.args.width in
    let inv = c.loop-s.invariant in
    let fills : t64 ≤ c.loop-s.s + w = omega (arith, c.loop-s-test.false) in
    let row = is-step (goal.at.loop-r-preserved c).At-loop-s c.row_at-in-loop-r.ensures c.row_at-in-loop-r-2.ensures c.wrapping_sub-in-loop-r.ensures in
    let again = is-step (goal.at.loop-r-preserved c).At-loop-s c.row_at-in-loop-r-3.ensures c.row_at-in-loop-r-4.ensures c.wrapping_sub-in-loop-r-2.ensures in (
      omega arith,
      before-next inv.1 inv.3.starts,
      packing-full size64 inv.1 c.requires.width_nonzero.0 c.requires.width_nonzero.1 inv.3 row c.next_start-start-in-loop-r.ensures fills
          c.or_shl.ensures
          (c.shr-rest.ensures
          ∙ ap (λ x. shr_of t64 x (t64 - c.loop-s.s)) (c.mask-in-loop-r.ensures ∙ ap (λ x. mask_of t64 x w) (again ∙ sym row)))
          c.put_at.ensures
          (omega arith),
    )

pub returns : goal.returns
returns c = packing_all size64 (omega arith) c.loop-r.invariant.2
