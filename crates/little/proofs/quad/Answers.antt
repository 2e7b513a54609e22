-- `little::quad` meets its contract: by the test that the bytes are there.
-- Assumes nothing.
use mathlib.Core.Path.{sym, ◌∙◌}
use borrow.Author.Tests.{leb-true}
use Rattle.little.proofs.Little.{little_there, little_missing}
use Rattle.little.proofs.quad.Goals as goal

pub quad_at-requires : goal.quad_at-requires
quad_at-requires c = leb-true _ _ (sym c.has.ensures ∙ c.if-has.true)

pub returns-then-has : goal.returns-then-has
returns-then-has c = c.quad_at.ensures ∙ sym (little_there _ _ _ (sym c.has.ensures ∙ c.if-has.true))

pub returns : goal.returns
returns c = sym (little_missing _ _ _ (sym c.has.ensures ∙ c.if-has.false))
