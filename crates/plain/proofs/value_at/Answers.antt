-- `plain::value_at` meets its contract: row and lane are those of the place.
-- Assumes nothing.
use mathlib.Core.Path.{sym, ap₂, ◌∙◌, subst}
use Prim.Native.Nat.{◌<◌}
use Rattle.places.specs.Sizes.{lanes}
use Rattle.places.proofs.Places.{lane-lt, row_lt}
use Rattle.plain.specs.Plain.{value_in, plain_value}
use Rattle.plain.proofs.value_at.Goals as goal

pub lane_of-requires : goal.lane_of-requires
lane_of-requires g c = record { size = g.met.E.Element.size; p_bound = c.requires.p_bound }

pub row_of-requires : goal.row_of-requires
row_of-requires g c = record { size = g.met.E.Element.size; p_bound = c.requires.p_bound }

pub value_in-requires : goal.value_in-requires
value_in-requires g c =
    let size = g.met.E.Element.size in
    record { width_le_t = c.requires.width_le_t; packed_len = c.requires.packed_len; lane_bound = (subst (λ l. l < lanes g.row.T) (sym c.lane_of.ensures) (lane-lt size _ c.requires.p_bound), subst (λ r. r < g.row.T) (sym c.row_of.ensures) (row_lt size _ c.requires.p_bound)) }

pub returns : goal.returns
unfolding plain_value
returns g c =
    c.value_in.ensures
    ∙ ap₂ (value_in g.row.T c.args.width (g.E.Element.numbers c.args.packed.now)) c.lane_of.ensures c.row_of.ensures
