-- `deltas::unpack_sums` meets its contract. The loops' invariants: the first rows hold their sums, prev is the last of
-- them, and the walk stands where the next one begins.
-- Assumes nothing.
use Rattle.std.proofs.Common.{◌+◌, ◌*◌, ◌≤◌, ◌<◌, length, sym, ap, ◌∙◌, arith, add_assoc}
use Rattle.places.specs.Sizes.{lanes}
use Rattle.places.proofs.Places.{size-eights}
use Rattle.places.proofs.Elements.{numbers-length}
use Rattle.rows.specs.Rows.{shr_of}
use Rattle.rows.proofs.Blocks.{start-at, start_in}
use Rattle.packing.proofs.Walks.{at_first, at_room, at-room_two, Read, reading}
use Rattle.deltas.proofs.Restores.{undelta-pack-is}
use Rattle.deltas.proofs.Walks.{summing_none, summing_next, summing_all, unpacked_row}
use Rattle.deltas.proofs.unpack_sums.Goals as goal
use Rattle.deltas.proofs.unpack_sums.Goals.{then-s+then-s-gt0, then-s+else-s-gt0, else-s}
use Rattle.deltas.proofs.unpack_sums.Goals.{In-loop-i, Joined-s}

pub loop-o-init : goal.loop-o-init
loop-o-init g c =
    let m = g.met.E.Element in
    let long = numbers-length m.one_by_one in
    (at_first g.row.T _, summing_none (long _ ∙ c.requires.base_len) (long _ ∙ c.requires.values_len) c.load-prev.ensures)

-- a turn of the inner loop: its row is one of the block's, and begins in words that lie within the packed block
row_lt : (g : _) (c : In-loop-i g) → c.loop-o.o * 8 + c.loop-i.i < g.row.T
row_lt g c = omega arith

first-room : (g : _) (c : In-loop-i g) → c.loop-i.word + lanes g.row.T ≤ length c.args.packed.now
first-room g c = omega (arith, at_room g.met.E.Element.size (row_lt g c) c.requires.width_nonzero.0 c.loop-i.invariant.0, c.requires.packed_len)

pub row_at-requires : goal.row_at-requires
row_at-requires g c = (g.met.E.Element.row_fits, first-room g (goal.at.row_at-requires g c).In-loop-i)

pub row_at-requires-then-s-gt0 : goal.row_at-requires-then-s-gt0
row_at-requires-then-s-gt0 g c =
    let m = g.met.E.Element in
    let hr = row_lt g (goal.at.row_at-requires-then-s-gt0 g c).In-loop-i in
    (m.row_fits, omega (arith, at-room_two m.size hr c.requires.width_nonzero.0 c.loop-i.invariant.0 (omega arith), c.requires.packed_len, m.side_by_side))

pub put_at-requires : goal.put_at-requires
put_at-requires g c =
    let m = g.met.E.Element in
    let hr = row_lt g (goal.at.put_at-requires g c).In-loop-i in
    (m.row_fits, omega (arith, c.loop-i.invariant.1.laid.long, numbers-length m.one_by_one c.loop-i.values, start_in m.size _ _ _ c.loop-i-test.true hr c.row_start.ensures))

-- the row is read
is_read : (g : _) (c : Joined-s g)
    → Read g.row.T c.args.width (c.loop-o.o * 8 + c.loop-i.i) (g.E.Element.numbers c.args.packed.now)
    (g.E.Element.numbers c.if-s.row) c.if-s.s c.if-s.word
is_read g c =
    let m = g.met.E.Element in
    let hr : c.loop-o.o * 8 + c.loop-i.i < g.row.T = omega arith in
    let first = c.shr-row.ensures ∙ ap (λ x. shr_of g.row.T x c.loop-i.s) c.row_at.ensures in
    let read = reading m.size m.side_by_side hr c.requires.width_nonzero c.loop-i.invariant.0 _ c.are_elements.ensures first in
    elim c.if-s.branch [
      | then-s+then-s-gt0 w ↦
          read.over (omega arith) w.s-is w.word-is w.row_at-then-s-gt0.ensures (ap g.E.Element.numbers w.row-is ∙ w.or_shl-both.ensures)
      | then-s+else-s-gt0 w ↦ read.full (omega arith) w.s-is w.word-is (ap g.E.Element.numbers w.row-is)
      | else-s w ↦ read.within w.if-s.false w.s-is w.word-is (ap g.E.Element.numbers w.row-is)
    ]

pub loop-i-preserved : goal.loop-i-preserved
loop-i-preserved g c =
    let m = g.met.E.Element in
    let hr = row_lt g (goal.at.loop-i-preserved g c).In-loop-i in
    let found = start-at m.size _ _ _ c.loop-i-test.true hr c.row_start.ensures in
    let read = is_read g (goal.at.loop-i-preserved g c).Joined-s in
    let row = c.mask.ensures ∙ read.cut ∙ unpacked_row m.size c.args.width _ _ hr in
    let summed = summing_next m.size hr c.loop-i.invariant.1 found row c.wrapping_add-next.ensures c.put_at.ensures in
    let next = add_assoc (c.loop-o.o * 8) c.loop-i.i 1 in
    (rw next at read.next, rw next at summed)

pub returns : goal.returns
returns g c = summing_all g.met.E.Element.size c.loop-o.invariant.1 (omega (arith, size-eights g.met.E.Element.size)) ∙ sym (undelta-pack-is g.met.E.Element.size c.args.width _ _)
