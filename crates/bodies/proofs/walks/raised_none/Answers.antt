-- `bodies::walks::raised_none` meets its contract: the lengths are right, so the block is laid down.
-- Assumes nothing.
use mathlib.Core.List.{[]}
use mathlib.Core.Path.{refl, ◌∙◌}
use native.Mathlib.Omega.{arith}
use Rattle.places.specs.Sizes.{t64}
use Rattle.deltas.proofs.Answers.{unfor_pack-leaves}
use Rattle.bodies.proofs.walks.raised_none.Goals as goal

pub returns : goal.returns
returns c =
    c.unfor_pack.ensures.values_after
    ∙ unfor_pack-leaves t64 0 c.args.output.now [] (omega arith) c.requires refl c.args.reference
