-- `little::put_quad` meets its contract: by the test that the bytes fit.
-- Assumes nothing.
use mathlib.Core.Path.{sym, ◌∙◌}
use borrow.Author.Tests.{leb-true}
use Rattle.little.proofs.Bytes.{put_there, put_missing}
use Rattle.little.proofs.put_quad.Goals as goal

pub put_quad_at-requires : goal.put_quad_at-requires
put_quad_at-requires c = leb-true _ _ (sym c.within.ensures ∙ c.if-within.true)

pub returns-then-within : goal.returns-then-within
returns-then-within c =
    c.put_quad_at.ensures ∙ sym (put_there _ _ _ _ (sym c.within.ensures ∙ c.if-within.true))

pub returns-else-within : goal.returns-else-within
returns-else-within c = sym (put_missing _ _ _ _ (sym c.within.ensures ∙ c.if-within.false))
