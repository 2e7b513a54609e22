-- `little::pair_at` meets its contract: by its two halves.
-- Assumes nothing.
use mathlib.Core.Path.{ap₂, ◌∙◌}
use Prim.Native.Nat.{◌+◌, ◌*◌}
use Rattle.little.proofs.Little.{little_two}
use Rattle.little.proofs.pair_at.Goals as goal

pub returns : goal.returns
returns c =
    ap₂ (λ x y. x + y * 256) c.byte_in_pair.ensures.0 c.byte_in_pair-2.ensures.0 ∙ little_two _ _
