-- `deltas::frame_split` meets its contract. The invariant of both loops: before row r of the frame, the words that are
-- full stand in the packed block, and the others are held. A turn of the inner loop leaves room in its words, so there
-- is a next row.
-- Assumes nothing.
use Rattle.std.proofs.Common.{◌≡◌, ℕ, ◌+◌, ◌-◌, ◌≤◌, ◌<◌, List, length, sym, ap, ap₂, ◌∙◌, arith, rules}
use Rattle.places.specs.Sizes.{lanes}
use Rattle.places.proofs.Elements.{numbers-length}
use Rattle.rows.specs.Rows.{splat_of, shr_of, or_shl_of, mask_of, sub_of}
use Rattle.rows.proofs.Blocks.{row_from_lem, row_of, starts_at, starts_room}
use Rattle.packing.proofs.Walks.{at_room, row_more, packing_on, packing-full, packing-none, packing_all}
use Rattle.deltas.specs.Deltas.{frame_of, for_pack_of}
use Rattle.deltas.proofs.Walks.{frame_row}
use Rattle.deltas.proofs.frame_split.Goals as goal
use Rattle.deltas.proofs.frame_split.Goals.{At-loop-s}

pub loop-r-init : goal.loop-r-init
loop-r-init g c =
    let m = g.met.E.Element in
    (search rules, packing-none g.row.T _ _ _ _ (numbers-length m.one_by_one _ ∙ c.requires.packed_len) (c.splat-held.ensures ∙ ap (splat_of g.row.T) c.of.ensures))

row_room : (g : _) (c : At-loop-s g) → c.loop-s.start + lanes g.row.T ≤ length c.args.values.now
row_room g c =
    let inv = c.loop-s.invariant in
    omega (arith, starts_room g.met.E.Element.size inv.1 inv.2.starts, c.requires.values_len)

word-room : (g : _) (c : At-loop-s g) → c.loop-r.word + lanes g.row.T ≤ length c.loop-r.packed
word-room g c =
    let m = g.met.E.Element in
    let inv = c.loop-s.invariant in
    omega (arith, at_room m.size inv.1 c.requires.width_nonzero.0 inv.2.stands, inv.2.filled.fits, numbers-length m.one_by_one c.loop-r.packed)

-- the row of differences that starts at a place is the frame's
is-frame : (g : _) (c : At-loop-s g) {x y : List ℕ} → x ≡ row_from_lem g.row.T (g.E.Element.numbers c.args.values.now) c.loop-s.start
    → y ≡ sub_of g.row.T x (g.E.Element.numbers c.splat-low.result)
    → y ≡ row_of g.row.T (frame_of g.row.T (g.E.Element.numbers c.args.values.now) (g.E.Element.number c.args.reference)) c.loop-s.r
is-frame g c ex ey =
    let size = g.met.E.Element.size in
    let inv = c.loop-s.invariant in
    ey ∙ ap₂ (sub_of g.row.T) ex c.splat-low.ensures
    ∙ frame_row size c.loop-s.r c.loop-s.start _ _ inv.1 (starts_at size inv.1 inv.2.starts)

pub row_at-requires : goal.row_at-requires
row_at-requires g c = (g.met.E.Element.row_fits, row_room g (goal.at.row_at-requires g c).At-loop-s)

pub loop-s-preserved : goal.loop-s-preserved
loop-s-preserved g c =
    let size = g.met.E.Element.size in
    let inv = c.loop-s.invariant in
    let less : c.loop-s.s + c.args.width < g.row.T = omega (arith, c.loop-s-test.true) in
    let row = is-frame g (goal.at.loop-s-preserved g c).At-loop-s c.row_at.ensures c.wrapping_sub.ensures in (
      omega arith,
      row_more size inv.1 c.requires.width_nonzero.0 inv.2.stands less,
      packing_on size inv.1 c.requires.width_nonzero.0 c.requires.width_nonzero.1 inv.2 row c.next_start-start.ensures less
          (c.or_shl-more.ensures ∙ ap (λ x. or_shl_of g.row.T (g.E.Element.numbers c.loop-s.held) x c.loop-s.s) c.mask.ensures),
    )

pub row_at-requires-in-loop-r : goal.row_at-requires-in-loop-r
row_at-requires-in-loop-r g c = (g.met.E.Element.row_fits, row_room g (goal.at.row_at-requires-in-loop-r g c).At-loop-s)

pub put_at-requires : goal.put_at-requires
put_at-requires g c = (g.met.E.Element.row_fits, word-room g (goal.at.put_at-requires g c).At-loop-s)

pub row_at-requires-in-loop-r-2 : goal.row_at-requires-in-loop-r-2
row_at-requires-in-loop-r-2 g c = (g.met.E.Element.row_fits, row_room g (goal.at.row_at-requires-in-loop-r-2 g c).At-loop-s)

pub loop-r-preserved : goal.loop-r-preserved
loop-r-preserved g c =
    let m = g.met.E.Element in
    let w = c.args.width in
    let inv = c.loop-s.invariant in
    let fills : g.row.T ≤ c.loop-s.s + w = omega (arith, c.loop-s-test.false) in
    let row = is-frame g (goal.at.loop-r-preserved g c).At-loop-s c.row_at-in-loop-r.ensures c.wrapping_sub-in-loop-r.ensures in
    let again = is-frame g (goal.at.loop-r-preserved g c).At-loop-s c.row_at-in-loop-r-2.ensures c.wrapping_sub-in-loop-r-2.ensures in (
      omega arith,
      rw (← m.side_by_side)
          (packing-full m.size inv.1 c.requires.width_nonzero.0 c.requires.width_nonzero.1 inv.2 row c.next_start-start-in-loop-r.ensures fills
          c.or_shl.ensures
          (c.shr-rest.ensures
          ∙ ap (λ x. shr_of g.row.T x (g.row.T - c.loop-s.s)) (c.mask-in-loop-r.ensures ∙ ap (λ x. mask_of g.row.T x w) (again ∙ sym row)))
          c.put_at.ensures
          (omega arith)),
    )

pub returns : goal.returns
unfolding for_pack_of
returns g c = packing_all g.met.E.Element.size (omega arith) c.loop-r.invariant.1
