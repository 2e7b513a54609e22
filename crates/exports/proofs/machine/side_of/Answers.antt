-- `side_of` tells the side by whether the number is 0.
-- Assumes nothing.
use borrow.Author.Tests.{eq-eqb, ne_eqb}
use Rattle.exports.proofs.machine.side_of.Goals as goal

pub returns-then-number-eq0 : goal.returns-then-number-eq0
returns-then-number-eq0 c = simp (eq-eqb _ _ c.if-number-eq0.true)

pub returns : goal.returns
returns c = simp (ne_eqb _ _ c.if-number-eq0.false)
