-- `canonical::lower` meets its contract: by the two tests.
-- Assumes nothing.
use mathlib.Core.Path.{sym, ap, ◌∙◌}
use lib.Dec.{eqb}
use borrow.Author.Tests.{eq-eqb, ne_eqb}
use Rattle.lists.specs.Pick.{pick}
use Rattle.canonical.proofs.lower.Goals as goal

pub returns-then-lowest-n : goal.returns-then-lowest-n
returns-then-lowest-n c =
    let a = c.args in
    sym
    (ap (λ t. pick t a.lowest (pick (eqb a.lowest a.n) a.number a.lowest)) c.if-ours.false
    ∙ ap (λ t. pick t a.number a.lowest) (eq-eqb a.lowest a.n c.if-lowest-n.true))

pub returns : goal.returns
returns c =
    let a = c.args in
    sym
    (ap (λ t. pick t a.lowest (pick (eqb a.lowest a.n) a.number a.lowest)) c.if-ours.false
    ∙ ap (λ t. pick t a.number a.lowest) (ne_eqb a.lowest a.n c.if-lowest-n.false))
