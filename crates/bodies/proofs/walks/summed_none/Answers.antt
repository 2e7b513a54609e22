-- `bodies::walks::summed_none` meets its contract: the lengths are right, so the block is laid down.
-- Assumes nothing.
use mathlib.Core.List.{[]}
use mathlib.Core.Path.{refl, ◌∙◌}
use native.Mathlib.Omega.{arith}
use Rattle.places.specs.Sizes.{t64}
use Rattle.deltas.proofs.Answers.{undelta-pack-leaves}
use Rattle.bodies.proofs.walks.summed_none.Goals as goal

pub returns : goal.returns
returns c =
    c.undelta_pack.ensures.values_after
    ∙ undelta-pack-leaves t64 0 c.args.output.now [] c.args.base.now (omega arith) c.requires.output_len refl c.requires.base_len
