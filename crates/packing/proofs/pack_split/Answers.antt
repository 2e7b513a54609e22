-- `packing::pack_split` meets its contract.
-- Assumes nothing.
use Rattle.std.proofs.Common.{◌≡◌, ◌+◌, ◌-◌, ◌≤◌, ◌<◌, length, sym, ap, ◌∙◌, arith, rules}
use Rattle.places.specs.Sizes.{lanes}
use Rattle.places.proofs.Places.{size-most}
use Rattle.places.proofs.Elements.{numbers-length}
use Rattle.rows.specs.Rows.{splat_of, shr_of, or_shl_of, mask_of}
use Rattle.rows.proofs.Blocks.{row_from, starts_at, starts_room}
use Rattle.packing.proofs.Walks.{at_lt, at_room, row_more}
use Rattle.packing.proofs.Walks.{packing_on, packing-full, packing-none, packing_all}
use Rattle.packing.proofs.pack_split.Goals as goal
use Rattle.packing.proofs.pack_split.Goals.{At-loop-s}

pub loop-r-init : goal.loop-r-init
loop-r-init g c =
    let m = g.met.E.Element in
    let zeros = c.splat-held.ensures ∙ ap (splat_of g.row.T) c.of.ensures in
    (search rules, packing-none g.row.T _ _ _ _ (numbers-length m.one_by_one _ ∙ c.requires.packed_len) zeros)

pub loop-s-init : goal.loop-s-init
loop-s-init g c = (search rules, c.loop-r-test.true, c.loop-r.invariant.1)

row_room : (g : _) (c : At-loop-s g) → c.loop-s.start + lanes g.row.T ≤ length c.args.values.now
row_room g c =
    let inv = c.loop-s.invariant in
    omega (arith, starts_room g.met.E.Element.size inv.1 inv.2.starts, c.requires.values_len)

bit-lt : (g : _) (c : At-loop-s g) → c.loop-s.s < g.row.T
bit-lt g c = at_lt g.met.E.Element.size c.loop-s.invariant.1 c.requires.width_nonzero.0 c.loop-s.invariant.2.stands

word-room : (g : _) (c : At-loop-s g) → c.loop-r.word + lanes g.row.T ≤ length c.loop-r.packed
word-room g c =
    let m = g.met.E.Element in
    let inv = c.loop-s.invariant in
    omega (arith, at_room m.size inv.1 c.requires.width_nonzero.0 inv.2.stands, inv.2.filled.fits, numbers-length m.one_by_one c.loop-r.packed)

pub row_at-requires : goal.row_at-requires
row_at-requires g c = (g.met.E.Element.row_fits, row_room g (goal.at.row_at-requires g c).At-loop-s)

pub overflow_add-s : goal.overflow_add-s
overflow_add-s g c =
    let most = size-most g.met.E.Element.size in
    omega (arith, bit-lt g (goal.at.overflow_add-s g c).At-loop-s)

pub loop-s-preserved : goal.loop-s-preserved
loop-s-preserved g c =
    let m = g.met.E.Element in
    let numbers = g.E.Element.numbers in
    let w = c.args.width in
    let pos = c.requires.width_nonzero.0 in
    let inv = c.loop-s.invariant in
    let less : c.loop-s.s + w < g.row.T = omega (arith, c.loop-s-test.true) in
    let found = row_from g.row.T _ _ (numbers c.args.values.now) (starts_at m.size inv.1 inv.2.starts) in
    let row = c.row_at.ensures ∙ found in (
      omega arith,
      row_more m.size inv.1 pos inv.2.stands less,
      packing_on m.size inv.1 pos c.requires.width_nonzero.1 inv.2 row c.next_start-start.ensures less
          (c.or_shl-more.ensures ∙ ap (λ x. or_shl_of g.row.T (numbers c.loop-s.held) x c.loop-s.s) c.mask.ensures),
    )

pub row_at-requires-in-loop-r : goal.row_at-requires-in-loop-r
row_at-requires-in-loop-r g c = (g.met.E.Element.row_fits, row_room g (goal.at.row_at-requires-in-loop-r g c).At-loop-s)

pub put_at-requires : goal.put_at-requires
put_at-requires g c = (g.met.E.Element.row_fits, word-room g (goal.at.put_at-requires g c).At-loop-s)

pub row_at-requires-in-loop-r-2 : goal.row_at-requires-in-loop-r-2
row_at-requires-in-loop-r-2 g c = (g.met.E.Element.row_fits, row_room g (goal.at.row_at-requires-in-loop-r-2 g c).At-loop-s)

pub overflow_sub-s : goal.overflow_sub-s
overflow_sub-s g c = omega (arith, bit-lt g (goal.at.overflow_sub-s g c).At-loop-s)

pub overflow_add-word : goal.overflow_add-word
overflow_add-word g c =
    let side = g.met.E.Element.side_by_side in
    let long : length c.loop-r.packed ≡ length c.args.packed.now = search rules in
    omega (arith, word-room g (goal.at.overflow_add-word g c).At-loop-s)

pub loop-r-preserved : goal.loop-r-preserved
loop-r-preserved g c =
    let m = g.met.E.Element in
    let numbers = g.E.Element.numbers in
    let t = g.row.T in
    let w = c.args.width in
    let inv = c.loop-s.invariant in
    let starts = starts_at m.size inv.1 inv.2.starts in
    let fills : t ≤ c.loop-s.s + w = omega (arith, c.loop-s-test.false) in
    let row = c.row_at-in-loop-r.ensures ∙ row_from t _ _ (numbers c.args.values.now) starts in
    let again = c.row_at-in-loop-r-2.ensures ∙ row_from t _ _ (numbers c.args.values.now) starts in (
      omega arith,
      rw (← m.side_by_side)
          (packing-full m.size inv.1 c.requires.width_nonzero.0 c.requires.width_nonzero.1 inv.2 row c.next_start-start-in-loop-r.ensures fills
          c.or_shl.ensures
          (c.shr-rest.ensures ∙ ap (λ x. shr_of t x (t - c.loop-s.s)) (c.mask-in-loop-r.ensures ∙ ap (λ x. mask_of t x w) (again ∙ sym row)))
          c.put_at.ensures
          (omega arith)),
    )

pub returns : goal.returns
returns g c = packing_all g.met.E.Element.size (omega arith) c.loop-r.invariant.1
