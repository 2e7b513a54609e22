-- `little::word_at` meets its contract: by its two halves.
-- Assumes nothing.
use mathlib.Core.Path.{ap₂, ◌∙◌}
use Prim.Native.Nat.{◌+◌, ◌*◌}
use Rattle.little.proofs.Little.{little_eight}
use Rattle.little.proofs.word_at.Goals as goal

pub returns : goal.returns
returns c =
    ap₂ (λ x y. x + y * 4294967296)
    (c.quad_in_word.ensures.0 ∙ c.quad_at.ensures)
    (c.quad_in_word-2.ensures.0 ∙ c.quad_at-2.ensures)
    ∙ little_eight _ _
