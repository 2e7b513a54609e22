-- `replay::t64::narrowed` meets its contract. The loop's invariant: the first i elements are written.
-- Assumes nothing.
use Rattle.std.proofs.Common.{sym, refl, zero-le, zero-add, arith}
use Rattle.lists.proofs.Tabs.{written_none, written_next, written_all}
use Rattle.replay.proofs.t64.narrowed.Goals as goal

pub loop-i-init : goal.loop-i-init
loop-i-init c = (refl, written_none zero-le)

pub loop-i-preserved : goal.loop-i-preserved
loop-i-preserved c =
    let inv = c.loop-i.invariant in
    (inv.0, written_next inv.1 _ _ (omega arith) (sym (zero-add _)) c.narrow.ensures)

pub returns : goal.returns
returns c =
    let inv = c.loop-i.invariant in
    written_all inv.1 4096 (omega arith) inv.0
