-- `deltas::repeat` meets its contract. The loop's invariant: the first r rows of places hold the row again and again.
-- Assumes nothing.
use Rattle.std.proofs.Common.{◌≡◌, ◌*◌, length, sym, ap, ◌∙◌, arith, rules, zero-le, mul-zero}
use Rattle.lists.proofs.Tabs.{written_none, written_all}
use Rattle.places.specs.Sizes.{lanes}
use Rattle.places.proofs.Elements.{numbers-length}
use Rattle.packing.proofs.Walks.{copied_room, copied_size}
use Rattle.deltas.proofs.Walks.{repeated}
use Rattle.deltas.proofs.repeat.Goals as goal

pub loop-r-init : goal.loop-r-init
loop-r-init g c = rw mul-zero (written_none zero-le)

pub put_at-requires : goal.put_at-requires
put_at-requires g c =
    let m = g.met.E.Element in
    let long : length c.loop-r.values ≡ 1024 = search rules in
    (m.row_fits, rw (long, ← m.side_by_side) (copied_room m.size c.loop-r.r c.loop-r-test.true))

pub loop-r-preserved : goal.loop-r-preserved
loop-r-preserved g c =
    let m = g.met.E.Element in
    let own : length c.args.row ≡ g.row.LANES = search rules in
    let long = numbers-length m.one_by_one in
    repeated m.size c.loop-r-test.true _ (long _ ∙ own ∙ sym m.side_by_side) (long _ ∙ c.requires) c.loop-r.invariant
    (ap (λ n. n * c.loop-r.r) (sym m.side_by_side)) c.put_at.ensures

pub returns : goal.returns
returns g c =
    let m = g.met.E.Element in
    written_all c.loop-r.invariant 1024 (ap (λ n. lanes g.row.T * n) (omega arith) ∙ copied_size m.size) (numbers-length m.one_by_one _ ∙ c.requires)
