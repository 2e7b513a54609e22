-- `plain::stands_in` meets its contract: the two tests are made of where the row starts.
-- Assumes nothing.
use mathlib.Core.Path.{ap, ◌∙◌}
use native.Mathlib.Omega.{arith}
use lib.Dec.{leb, ltb}
use Prim.Native.Nat.{◌+◌}
use Rattle.lists.specs.Pick.{both}
use Rattle.places.specs.Sizes.{lanes}
use Rattle.places.proofs.Places.{size_some}
use Rattle.plain.proofs.Words.{lanes-most, row-most, and_both}
use Rattle.plain.proofs.stands_in.Goals as goal

pub nonzero_div-result : goal.nonzero_div-result
nonzero_div-result c = size_some c.requires.size

pub overflow_add-result : goal.overflow_add-result
overflow_add-result c =
    omega (arith, c.place-start.ensures, row-most c.args.row c.requires.row_bound, lanes-most c.requires.size)

pub returns : goal.returns
returns c =
    let p = c.args.p in
    let long = lanes c.args.t in
    and_both (leb c.place-start.result p) (ltb p (c.place-start.result + long))
    ∙ ap (λ n. both (leb n p) (ltb p (n + long))) c.place-start.ensures
