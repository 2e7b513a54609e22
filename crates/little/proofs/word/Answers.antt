-- `little::word` meets its contract: by the test that the bytes are there.
-- Assumes nothing.
use mathlib.Core.Path.{sym, ◌∙◌}
use borrow.Author.Tests.{leb-true}
use Rattle.little.proofs.Little.{little_there, little_missing}
use Rattle.little.proofs.word.Goals as goal

pub word_at-requires : goal.word_at-requires
word_at-requires c = leb-true _ _ (sym c.has.ensures ∙ c.if-has.true)

pub returns-then-has : goal.returns-then-has
returns-then-has c = c.word_at.ensures ∙ sym (little_there _ _ _ (sym c.has.ensures ∙ c.if-has.true))

pub returns : goal.returns
returns c = sym (little_missing _ _ _ (sym c.has.ensures ∙ c.if-has.false))
