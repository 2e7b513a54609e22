-- `plain::lane_of` meets its contract: a place is as far from where its row starts as its lane says.
-- Assumes nothing.
use mathlib.Core.Path.{◌≡◌, ap, ◌∙◌}
use Prim.Native.Nat.{◌+◌}
use native.Mathlib.Omega.{arith}
use Rattle.places.specs.Places as Places
use Rattle.plain.proofs.Words.{row-few, row-lane}
use Rattle.plain.proofs.lane_of.Goals as goal
use Rattle.plain.proofs.lane_of.Goals.{After-place}

pub place-requires : goal.place-requires
place-requires c =
    (omega (arith, c.row_of.ensures, row-few c.requires.size _ c.requires.p_bound), omega arith)

-- where the row of the place starts, and how far that is
start : (c : After-place) → c.place.result + Places.lane c.args.t c.args.p ≡ c.args.p
start c =
    ap (λ n. n + Places.lane c.args.t c.args.p) (c.place.ensures ∙ ap (λ r. Places.place r 0) c.row_of.ensures)
    ∙ row-lane c.requires.size _ c.requires.p_bound

pub overflow_sub-result : goal.overflow_sub-result
overflow_sub-result c = omega (arith, start (goal.at.overflow_sub-result c).After-place)

pub returns : goal.returns
returns c = omega (arith, start (goal.at.returns c).After-place)
