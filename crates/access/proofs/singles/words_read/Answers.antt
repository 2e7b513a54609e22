-- `access::singles::words_read` meets its contract: by the three cases of a count.
-- Assumes nothing.
use Rattle.std.proofs.Common.{sym, arith}
use Rattle.access.proofs.Counts.{words-none, words-one, words_two}
use Rattle.access.proofs.singles.words_read.Goals as goal

pub returns-then-width-eq0 : goal.returns-then-width-eq0
returns-then-width-eq0 g c = sym (words-none g.row.T _ _ c.if-width-eq0.true)

pub returns-then-r-width : goal.returns-then-r-width
returns-then-r-width g c = sym (words-one g.row.T _ _ c.if-width-eq0.false c.if-r-width.true)

pub returns : goal.returns
returns g c = sym (words_two g.row.T _ _ c.if-width-eq0.false (omega arith))
