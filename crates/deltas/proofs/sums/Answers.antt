-- `deltas::sums` meets its contract. The loops' invariants: the first rows are summed, and prev is the last of them.
-- Assumes nothing.
use Rattle.std.proofs.Common.{◌+◌, ◌*◌, ◌<◌, ◌∙◌, arith, add_assoc}
use Rattle.places.proofs.Places.{size-eights}
use Rattle.places.proofs.Elements.{numbers-length}
use Rattle.rows.proofs.Blocks.{row_from, start-at, start_in}
use Rattle.deltas.proofs.Walks.{summing_none, summing_next, summing_all}
use Rattle.deltas.proofs.sums.Goals as goal
use Rattle.deltas.proofs.sums.Goals.{In-loop-i}

pub loop-o-init : goal.loop-o-init
loop-o-init g c =
    let m = g.met.E.Element in
    let long = numbers-length m.one_by_one in
    summing_none (long _ ∙ c.requires.base_len) (long _ ∙ c.requires.output_len) c.load-prev.ensures

-- a turn of the inner loop: its row is one of the block's
row_lt : (g : _) (c : In-loop-i g) → c.loop-o.o * 8 + c.loop-i.i < g.row.T
row_lt g c = omega arith

pub row_at-requires : goal.row_at-requires
row_at-requires g c =
    let m = g.met.E.Element in
    (m.row_fits, omega (arith, start_in m.size _ _ _ c.loop-i-test.true (row_lt g (goal.at.row_at-requires g c).In-loop-i) c.row_start-start.ensures, c.requires.input_len))

pub put_at-requires : goal.put_at-requires
put_at-requires g c =
    let m = g.met.E.Element in (
      m.row_fits,
      omega (
        arith,
        c.loop-i.invariant.laid.long,
        numbers-length m.one_by_one c.loop-i.output,
        start_in m.size _ _ _ c.loop-i-test.true (row_lt g (goal.at.put_at-requires g c).In-loop-i) c.row_start-start.ensures,
      ),
    )

pub loop-i-preserved : goal.loop-i-preserved
loop-i-preserved g c =
    let size = g.met.E.Element.size in
    let hr = row_lt g (goal.at.loop-i-preserved g c).In-loop-i in
    let found = start-at size _ _ _ c.loop-i-test.true hr c.row_start-start.ensures in
    let row = c.row_at.ensures ∙ row_from g.row.T _ _ _ found in
    let summed = summing_next size hr c.loop-i.invariant found row c.wrapping_add-next.ensures c.put_at.ensures in
    rw (add_assoc (c.loop-o.o * 8) c.loop-i.i 1) at summed

pub returns : goal.returns
returns g c = summing_all g.met.E.Element.size c.loop-o.invariant (omega (arith, size-eights g.met.E.Element.size))
