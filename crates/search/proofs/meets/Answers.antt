-- `search::meets` meets its contract: the two ends that are compared are the higher of the lower ends and the lower of
-- the upper ends.
-- Assumes nothing.
use Rattle.std.proofs.Common.{◌≡◌, min, max, leb, ap₂, arith}
use Rattle.search.specs.Search.{meets}
use Rattle.search.proofs.meets.Goals as goal
use Rattle.search.proofs.meets.Goals.{then-r-low, else-r-low, then-high-r, else-high-r}

pub returns : goal.returns
unfolding meets
returns c =
    let args = c.args in
    let from : c.if-r-low.from ≡ max args.r.smallest args.low =
    elim c.if-r-low.branch [
      | then-r-low w ↦
          omega arith
      | else-r-low w ↦
          omega arith
    ] in
    let to : c.if-high-r.to ≡ min args.r.largest args.high = elim c.if-high-r.branch [
      | then-high-r w ↦
          omega arith
      | else-high-r w ↦
          omega arith
    ] in
    ap₂ leb from to
