-- `bits::untranspose_bits` meets its contract: its two walks are the inverse of the transpose.
-- Assumes nothing.
use mathlib.Core.Path.{ap, ◌∙◌}
use Rattle.bits.specs.InnerSteps.{gathers_of, ungroup_start}
use Rattle.bits.proofs.Walks.{untranspose-walks}
use Rattle.bits.proofs.untranspose_bits.Goals as goal

pub returns : goal.returns
returns c =
    c.ungroup.ensures
    ∙ ap (gathers_of ungroup_start 8) c.unscatter.ensures
    ∙ untranspose-walks c.args.block
