-- `bodies::is_range` meets its contract: the ends that are found are those of all values, whether a block is lent by
-- its length or the values as they are.
-- Assumes nothing.
use mathlib.Core.Path.{sym, ap, ap₂, ◌∙◌}
use native.Mathlib.Omega.{arith}
use lib.Dec.{eqb}
use lib.Seq.{take_all, length-take-le}
use Rattle.lists.specs.Pick.{both}
use Rattle.bodies.specs.Ranges.{is_range}
use Rattle.bodies.proofs.is_range.Goals as goal

pub slice_bounds-range_of-end : goal.slice_bounds-range_of-end
slice_bounds-range_of-end c = sym (length-take-le 1024 c.args.values.now (omega arith))

pub returns-then-values-eq1024 : goal.returns-then-values-eq1024
returns-then-values-eq1024 c =
    let args = c.args in
    let range = args.range in
    let values = args.values.now in
    c.is_same.ensures
    ∙ ap₂ (λ low high. both (eqb range.smallest low) (eqb range.largest high)) c.range_of.ensures.0 c.range_of.ensures.1
    ∙ ap (is_range range) (take_all 1024 values (omega arith))

pub returns : goal.returns
returns c =
    let range = c.args.range in
    c.is_same-2.ensures
    ∙ ap₂ (λ low high. both (eqb range.smallest low) (eqb range.largest high)) c.range_of-2.ensures.0 c.range_of-2.ensures.1
