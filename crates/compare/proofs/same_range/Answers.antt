-- `compare::same_range` meets its contract: the editions and both ends are compared.
-- Assumes nothing.
use mathlib.Core.Path.{ap₂, ◌∙◌}
use lib.Dec.{eqb}
use Rattle.lists.specs.Pick.{both}
use Rattle.contents.specs.Contents.{edition_or}
use Rattle.compare.specs.Ranges.{same_range}
use Rattle.compare.proofs.same_range.Goals as goal

pub returns : goal.returns
unfolding same_range
returns c =
    let args = c.args in
    let a = c.range_or-a.result in
    let b = c.range_or-b.result in
    ap₂ (λ e f. both (eqb e f) (both (eqb a.smallest b.smallest) (eqb a.largest b.largest))) c.edition.ensures c.edition-2.ensures
    ∙ ap₂ (λ a b. both (eqb (edition_or args.left.now) (edition_or args.right.now)) (both (eqb a.smallest b.smallest) (eqb a.largest b.largest)))
    c.range_or-a.ensures c.range_or-b.ensures
