-- `packing::unpack_split` meets its contract.
-- Assumes nothing.
use Rattle.std.proofs.Common.{◌≡◌, ◌+◌, ◌*◌, ◌≤◌, ◌<◌, length, ap, ◌∙◌, add-zero, add_assoc, arith}
use Rattle.places.specs.Sizes.{lanes}
use Rattle.places.proofs.Places.{size-eights, size-most}
use Rattle.places.proofs.Elements.{numbers-length}
use Rattle.rows.specs.Rows.{shr_of}
use Rattle.rows.proofs.Blocks.{laid_none, laid_put, laid_all, start_in}
use Rattle.packing.specs.Packed.{unpack_of}
use Rattle.packing.proofs.Walks.{at_first, at_lt, at_room, at-room_two}
use Rattle.packing.proofs.Walks.{Read, reading}
use Rattle.packing.proofs.unpack_split.Goals as goal
use Rattle.packing.proofs.unpack_split.Goals.{then-s+then-s-gt0, then-s+else-s-gt0, else-s}
use Rattle.packing.proofs.unpack_split.Goals.{In-loop-i, Joined-s}

pub loop-o-init : goal.loop-o-init
loop-o-init g c = (at_first g.row.T _, laid_none (numbers-length g.met.E.Element.one_by_one _ ∙ c.requires.values_len))

pub loop-i-init : goal.loop-i-init
loop-i-init g c = (rw add-zero c.loop-o.invariant.0, rw add-zero c.loop-o.invariant.1)

-- a turn of the inner loop: its row is one of the block's, and begins in words that lie within the packed block
row_lt : (g : _) (c : In-loop-i g) → c.loop-o.o * 8 + c.loop-i.i < g.row.T
row_lt g c = omega (arith, size-eights g.met.E.Element.size)

first-room : (g : _) (c : In-loop-i g) → c.loop-i.word + lanes g.row.T ≤ length c.args.packed.now
first-room g c = omega (arith, at_room g.met.E.Element.size (row_lt g c) c.requires.width_nonzero.0 c.loop-i.invariant.0, c.requires.packed_len)

bit-lt : (g : _) (c : In-loop-i g) → c.loop-i.s < g.row.T
bit-lt g c = at_lt g.met.E.Element.size (row_lt g c) c.requires.width_nonzero.0 c.loop-i.invariant.0

pub row_at-requires : goal.row_at-requires
row_at-requires g c = (g.met.E.Element.row_fits, first-room g (goal.at.row_at-requires g c).In-loop-i)

pub overflow_add-s : goal.overflow_add-s
overflow_add-s g c =
    let most = size-most g.met.E.Element.size in
    omega (arith, bit-lt g (goal.at.overflow_add-s g c).In-loop-i, c.requires.width_nonzero.1)

pub overflow_add-word : goal.overflow_add-word
overflow_add-word g c =
    let side = g.met.E.Element.side_by_side in
    omega (arith, first-room g (goal.at.overflow_add-word g c).In-loop-i)

pub row_at-requires-then-s-gt0 : goal.row_at-requires-then-s-gt0
row_at-requires-then-s-gt0 g c =
    let m = g.met.E.Element in
    let it = (goal.at.row_at-requires-then-s-gt0 g c).In-loop-i in (
      m.row_fits,
      omega (arith, at-room_two m.size (row_lt g it) c.requires.width_nonzero.0 c.loop-i.invariant.0 (omega arith), c.requires.packed_len, m.side_by_side),
    )

pub overflow_sub-width : goal.overflow_sub-width
overflow_sub-width g c = omega (arith, bit-lt g (goal.at.overflow_sub-width g c).In-loop-i)

pub put_at-requires : goal.put_at-requires
put_at-requires g c =
    let m = g.met.E.Element in (
      m.row_fits,
      omega (
        arith,
        start_in m.size _ _ _ c.loop-i-test.true (row_lt g (goal.at.put_at-requires g c).In-loop-i) c.row_start.ensures,
        c.loop-i.invariant.1.long,
        numbers-length m.one_by_one c.loop-i.values,
      ),
    )

-- the row is read
is_read : (g : _) (c : Joined-s g)
    → Read g.row.T c.args.width (c.loop-o.o * 8 + c.loop-i.i) (g.E.Element.numbers c.args.packed.now)
    (g.E.Element.numbers c.if-s.row) c.if-s.s c.if-s.word
is_read g c =
    let m = g.met.E.Element in
    let hr = (let it : c.loop-o.o * 8 + c.loop-i.i < g.row.T = omega (arith, size-eights m.size) in it) in
    let first = c.shr-row.ensures ∙ ap (λ x. shr_of g.row.T x c.loop-i.s) c.row_at.ensures in
    let read = reading m.size m.side_by_side hr c.requires.width_nonzero c.loop-i.invariant.0 _ c.are_elements.ensures first in
    elim c.if-s.branch [
      | then-s+then-s-gt0 w ↦
          read.over (omega arith) w.s-is w.word-is w.row_at-then-s-gt0.ensures (ap g.E.Element.numbers w.row-is ∙ w.or_shl-both.ensures)
      | then-s+else-s-gt0 w ↦ read.full (omega arith) w.s-is w.word-is (ap g.E.Element.numbers w.row-is)
      | else-s w ↦ read.within (omega arith) w.s-is w.word-is (ap g.E.Element.numbers w.row-is)
    ]

pub loop-i-preserved : goal.loop-i-preserved
loop-i-preserved g c =
    let m = g.met.E.Element in
    let read = is_read g (goal.at.loop-i-preserved g c).Joined-s in
    let next = add_assoc (c.loop-o.o * 8) c.loop-i.i 1 in (
      rw next at read.next,
      laid_put m.size _ _ _ c.loop-i-test.true (row_lt g (goal.at.loop-i-preserved g c).In-loop-i) c.row_start.ensures
          c.loop-i.invariant.1
          (c.mask.ensures ∙ read.cut)
          c.put_at.ensures,
    )

pub loop-o-preserved : goal.loop-o-preserved
loop-o-preserved g c =
    let o = c.loop-o.o in
    let inv = c.loop-i.invariant in
    let next : o * 8 + c.loop-i.i ≡ (o + 1) * 8 = omega arith in
    (rw next at inv.0, rw next at inv.1)

pub returns : goal.returns
unfolding unpack_of
returns g c = laid_all g.met.E.Element.size c.loop-o.invariant.1 (omega (arith, size-eights g.met.E.Element.size))
