-- `access::singles::words_at` meets its contract: where there are such a width and such a place, it is the count of the place's
-- row.
-- Assumes nothing.
use Rattle.std.proofs.Common.{◌<◌, ◌∙◌, arith}
use Rattle.places.specs.Places.{row}
use Rattle.access.proofs.Counts.{no-width, no_place, a_place}
use Rattle.access.proofs.LanesAndRows.{row-range, looked_count, place-in}
use Rattle.access.proofs.singles.words_at.Goals as goal

pub returns-then-width : goal.returns-then-width
returns-then-width g c = no-width g.row.T _ _ c.if-width.true

pub returns-then-index-ge1024 : goal.returns-then-index-ge1024
returns-then-index-ge1024 g c = no_place g.row.T _ _ c.if-width.false c.if-index-ge1024.true

pub words_read-requires : goal.words_read-requires
words_read-requires g c =
    let h : c.args.index < 1024 = omega arith in
    record { width_le_t = omega arith; r_lt_t = row-range g.met.E.Element.size c.args.index h _ (place-in (row g.row.T) h c.row_of.ensures) }

pub returns : goal.returns
returns g c =
    let h : c.args.index < 1024 = omega arith in
    looked_count g.met.E.Element.size _ h _ (place-in (row g.row.T) h c.row_of.ensures) _ _ c.words_read.ensures
    ∙ a_place g.row.T _ _ (omega arith) h
