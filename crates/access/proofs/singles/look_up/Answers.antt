-- `access::singles::look_up` meets its contract: lane and row are those of the index, and the value there is the one that is
-- read.
-- Assumes nothing.
use Rattle.std.proofs.Common.{◌<◌, ◌∙◌, arith}
use Rattle.places.specs.Places.{lane, row}
use Rattle.access.specs.declared.Single.TheVariants.{Value, Refused}
use Rattle.access.proofs.Answers.{index_value, index_past}
use Rattle.access.proofs.LanesAndRows.{row-range, lane_range, looked_value, place-in}
use Rattle.access.proofs.singles.look_up.Goals as goal

pub returns-then-index-ge1024 : goal.returns-then-index-ge1024
returns-then-index-ge1024 g c = index_past Value Refused _ _ _ c.if-index-ge1024.true

pub read-requires : goal.read-requires
read-requires g c =
    let m = g.met.E.Element in
    let h : c.args.index < 1024 = omega arith in
    record {
      width_le_t = c.requires.width_le_t;
      packed_len = c.requires.packed_len;
      l_bound = rw (← m.side_by_side) (lane_range m.size c.args.index h _ (place-in (row g.row.T) h c.row_of-r.ensures) _ (place-in (lane g.row.T) h c.lane_of-l.ensures));
      r_lt_t = row-range m.size c.args.index h _ (place-in (row g.row.T) h c.row_of-r.ensures);
    }

pub returns : goal.returns
returns g c =
    let h : c.args.index < 1024 = omega arith in
    c.read.ensures
    ∙ looked_value g.met.E.Element.size _ h _ (place-in (row g.row.T) h c.row_of-r.ensures) _ (place-in (lane g.row.T) h c.lane_of-l.ensures) Value c.args.width (g.E.Element.numbers c.args.packed.now)
    ∙ index_value Value Refused g.row.T _ _ _ h
