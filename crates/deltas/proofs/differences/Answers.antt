-- `deltas::differences` meets its contract. The loops' invariants: the first rows hold their differences, and prev is
-- the row before the next one.
-- Assumes nothing.
use Rattle.std.proofs.Common.{◌+◌, ◌*◌, ◌≤◌, ◌<◌, sym, ap, ap₂, ◌∙◌, arith, add_assoc}
use Rattle.places.specs.Sizes.{lanes}
use Rattle.places.proofs.Places.{size-eights}
use Rattle.places.proofs.Elements.{numbers-length}
use Rattle.rows.specs.Rows.{sub_of}
use Rattle.rows.proofs.Blocks.{row_from, laid_none, laid_put, laid_all, start-at, start_in}
use Rattle.deltas.specs.Deltas.{delta_of}
use Rattle.deltas.proofs.Walks.{load-base, row_before_lem, before_later, differ_row}
use Rattle.deltas.proofs.differences.Goals as goal
use Rattle.deltas.proofs.differences.Goals.{After-row_start-start, In-loop-i}

pub loop-o-init : goal.loop-o-init
loop-o-init g c =
    let m = g.met.E.Element in
    let long = numbers-length m.one_by_one in
    (c.load-prev.ensures ∙ load-base g.row.T _ (long _ ∙ c.requires.base_len), laid_none (long _ ∙ c.requires.output_len))

-- a turn of the inner loop: its row is one of the block's
row_lt : (g : _) (c : In-loop-i g) → c.loop-o.o * 8 + c.loop-i.i < g.row.T
row_lt g c = omega arith

-- and lies within the block
row_room : (g : _) (c : After-row_start-start g) → c.row_start-start.result + lanes g.row.T ≤ 1024
row_room g c =
    start_in g.met.E.Element.size _ _ _ c.loop-i-test.true (let it : c.loop-o.o * 8 + c.loop-i.i < g.row.T = omega arith in it) c.row_start-start.ensures

pub row_at-requires : goal.row_at-requires
row_at-requires g c = (g.met.E.Element.row_fits, omega (arith, row_room g (goal.at.row_at-requires g c).After-row_start-start, c.requires.input_len))

pub put_at-requires : goal.put_at-requires
put_at-requires g c =
    let m = g.met.E.Element in
    (m.row_fits, omega (arith, row_room g (goal.at.put_at-requires g c).After-row_start-start, c.loop-i.invariant.1.long, numbers-length m.one_by_one c.loop-i.output))

pub row_at-row-requires : goal.row_at-row-requires
row_at-row-requires g c = (g.met.E.Element.row_fits, omega (arith, row_room g (goal.at.row_at-row-requires g c).After-row_start-start, c.requires.input_len))

pub loop-i-preserved : goal.loop-i-preserved
loop-i-preserved g c =
    let m = g.met.E.Element in
    let o = c.loop-o.o in
    let i = c.loop-i.i in
    let inv = c.loop-i.invariant in
    let input = g.E.Element.numbers c.args.input.now in
    let base = g.E.Element.numbers c.args.base.now in
    let taken = c.loop-i-test.true in
    let hr = row_lt g (goal.at.loop-i-preserved g c).In-loop-i in
    let long = numbers-length m.one_by_one c.args.base.now ∙ c.requires.base_len in
    let found = row_from g.row.T _ _ input (start-at m.size _ _ _ taken hr c.row_start-start.ensures) in
    let row =
    c.wrapping_sub.ensures
    ∙ ap₂ (sub_of g.row.T) (c.row_at.ensures ∙ found) inv.0
    ∙ differ_row m.size input base (o * 8 + i) hr long in (
      c.row_at-row.ensures
          ∙ found
          ∙ sym (before_later g.row.T input base (o * 8 + i))
          ∙ ap (row_before_lem g.row.T input base) (add_assoc (o * 8) i 1),
      laid_put m.size _ _ _ taken hr c.row_start-start.ensures inv.1 row c.put_at.ensures,
    )

pub returns : goal.returns
unfolding delta_of
returns g c = laid_all g.met.E.Element.size c.loop-o.invariant.1 (omega (arith, size-eights g.met.E.Element.size))
