-- `contents::entry_size` meets its contract, edition by edition.
-- Assumes nothing.
use mathlib.Core.Path.{sym, ap}
use borrow.Author.Tests.{eq-eqb, ne_eqb}
use Rattle.lists.specs.Pick.{pick}
use Rattle.contents.specs.Contents.{entry_size}
use Rattle.contents.proofs.entry_size.Goals as goal

pub returns-then-edition-eq2 : goal.returns-then-edition-eq2
unfolding entry_size
returns-then-edition-eq2 c = sym (ap (λ b. pick b 32 16) (eq-eqb c.args.edition 2 c.if-edition-eq2.true))

pub returns : goal.returns
unfolding entry_size
returns c = sym (ap (λ b. pick b 32 16) (ne_eqb c.args.edition 2 c.if-edition-eq2.false))
