-- `search::sixteen` meets its contract. The loop's invariant: the first l rows are there.
-- Assumes nothing.
use Rattle.std.proofs.Common.{sym, refl, zero-add, arith}
use Rattle.lists.proofs.Tabs.{written_none, written_next, written_all}
use Rattle.search.proofs.sixteen.Goals as goal

pub loop-l-init : goal.loop-l-init
loop-l-init c = written_none (omega arith)

pub loop-l-preserved : goal.loop-l-preserved
loop-l-preserved c = written_next c.loop-l.invariant _ _ (omega arith) (sym (zero-add _)) refl

pub returns : goal.returns
returns c = written_all c.loop-l.invariant 16 (omega arith) refl
