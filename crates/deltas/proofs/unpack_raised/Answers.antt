-- `deltas::unpack_raised` meets its contract. The loops' invariants: the first rows hold their values, raised by the
-- reference, and the walk stands where the next one begins.
-- Assumes nothing.
use Rattle.std.proofs.Common.{◌+◌, ◌*◌, ◌≤◌, ◌<◌, length, ap, ap₂, ◌∙◌, arith, add_assoc}
use Rattle.places.specs.Sizes.{lanes}
use Rattle.places.proofs.Places.{size-eights}
use Rattle.places.proofs.Elements.{numbers-length}
use Rattle.rows.specs.Rows.{shr_of, add_of}
use Rattle.rows.proofs.Blocks.{laid_none, laid_put, laid_all, start_in}
use Rattle.packing.proofs.Walks.{at_first, at_room, at-room_two, Read, reading}
use Rattle.deltas.specs.Deltas.{unfor_pack_of}
use Rattle.deltas.proofs.Walks.{raised_row}
use Rattle.deltas.proofs.unpack_raised.Goals as goal
use Rattle.deltas.proofs.unpack_raised.Goals.{then-s+then-s-gt0, then-s+else-s-gt0, else-s}
use Rattle.deltas.proofs.unpack_raised.Goals.{In-loop-i, Joined-s}

pub loop-o-init : goal.loop-o-init
loop-o-init g c = (at_first g.row.T _, laid_none (numbers-length g.met.E.Element.one_by_one _ ∙ c.requires.values_len))

-- a turn of the inner loop: its row is one of the block's, and begins in words that lie within the packed block
row_lt : (g : _) (c : In-loop-i g) → c.loop-o.o * 8 + c.loop-i.i < g.row.T
row_lt g c = omega arith

first-room : (g : _) (c : In-loop-i g) → c.loop-i.word + lanes g.row.T ≤ length c.args.packed.now
first-room g c = omega (arith, at_room g.met.E.Element.size (row_lt g c) c.requires.width_nonzero.0 c.loop-i.invariant.0, c.requires.packed_len)

pub row_at-requires : goal.row_at-requires
row_at-requires g c = (g.met.E.Element.row_fits, first-room g (goal.at.row_at-requires g c).In-loop-i)

pub row_at-requires-then-s-gt0 : goal.row_at-requires-then-s-gt0
row_at-requires-then-s-gt0 g c =
    let m = g.met.E.Element in
    let hr = row_lt g (goal.at.row_at-requires-then-s-gt0 g c).In-loop-i in
    (m.row_fits, omega (arith, at-room_two m.size hr c.requires.width_nonzero.0 c.loop-i.invariant.0 (omega arith), c.requires.packed_len, m.side_by_side))

pub put_at-requires : goal.put_at-requires
put_at-requires g c =
    let m = g.met.E.Element in
    let hr = row_lt g (goal.at.put_at-requires g c).In-loop-i in
    (m.row_fits, omega (arith, c.loop-i.invariant.1.long, numbers-length m.one_by_one c.loop-i.values, start_in m.size _ _ _ c.loop-i-test.true hr c.row_start.ensures))

-- the row is read
is_read : (g : _) (c : Joined-s g)
    → Read g.row.T c.args.width (c.loop-o.o * 8 + c.loop-i.i) (g.E.Element.numbers c.args.packed.now)
    (g.E.Element.numbers c.if-s.row) c.if-s.s c.if-s.word
is_read g c =
    let m = g.met.E.Element in
    let hr : c.loop-o.o * 8 + c.loop-i.i < g.row.T = omega arith in
    let first = c.shr-row.ensures ∙ ap (λ x. shr_of g.row.T x c.loop-i.s) c.row_at.ensures in
    let read = reading m.size m.side_by_side hr c.requires.width_nonzero c.loop-i.invariant.0 _ c.are_elements.ensures first in
    elim c.if-s.branch [
      | then-s+then-s-gt0 w ↦
          read.over (omega arith) w.s-is w.word-is w.row_at-then-s-gt0.ensures (ap g.E.Element.numbers w.row-is ∙ w.or_shl-both.ensures)
      | then-s+else-s-gt0 w ↦ read.full (omega arith) w.s-is w.word-is (ap g.E.Element.numbers w.row-is)
      | else-s w ↦ read.within w.if-s.false w.s-is w.word-is (ap g.E.Element.numbers w.row-is)
    ]

pub loop-i-preserved : goal.loop-i-preserved
loop-i-preserved g c =
    let m = g.met.E.Element in
    let hr = row_lt g (goal.at.loop-i-preserved g c).In-loop-i in
    let taken = c.loop-i-test.true in
    let read = is_read g (goal.at.loop-i-preserved g c).Joined-s in
    let row =
    c.wrapping_add.ensures
    ∙ ap₂ (add_of g.row.T) (c.mask.ensures ∙ read.cut) c.splat-lift.ensures
    ∙ raised_row g.row.T _ _ in (
      rw (add_assoc (c.loop-o.o * 8) c.loop-i.i 1) at read.next,
      laid_put m.size _ _ _ taken hr c.row_start.ensures c.loop-i.invariant.1 row c.put_at.ensures,
    )

pub returns : goal.returns
unfolding unfor_pack_of
returns g c = laid_all g.met.E.Element.size c.loop-o.invariant.1 (omega (arith, size-eights g.met.E.Element.size))
