-- `bits::transpose_bits` meets its contract: its two walks are the transpose.
-- Assumes nothing.
use mathlib.Core.Path.{ap, ◌∙◌}
use Rattle.bits.specs.InnerSteps.{gathers_of, scatter_start}
use Rattle.bits.proofs.Walks.{transpose-walks}
use Rattle.bits.proofs.transpose_bits.Goals as goal

pub returns : goal.returns
returns g c =
    c.scatter.ensures
    ∙ ap (gathers_of scatter_start 8) c.group.ensures
    ∙ transpose-walks g.met.E.Element.size c.args.block
