-- `little::quad_at` meets its contract: by its two halves.
-- Assumes nothing.
use mathlib.Core.Path.{ap₂, ◌∙◌}
use Prim.Native.Nat.{◌+◌, ◌*◌}
use Rattle.little.proofs.Little.{little_four}
use Rattle.little.proofs.quad_at.Goals as goal

pub returns : goal.returns
returns c =
    ap₂ (λ x y. x + y * 65536)
    (c.pair_in_quad.ensures.0 ∙ c.pair_at.ensures)
    (c.pair_in_quad-2.ensures.0 ∙ c.pair_at-2.ensures)
    ∙ little_four _ _
