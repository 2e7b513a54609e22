-- `renumber::pairs::is_free` meets its contract: only a number that is new has to be listed.
-- Assumes nothing.
use lib.Dec.{ltb}
use mathlib.Core.Path.{sym, ap, ◌∙◌}
use Rattle.renumber.proofs.Becoming.{free_new, free_other}
use lib.ListN.{length}
use Rattle.renumber.proofs.pairs.is_free.Goals as goal

pub returns-then-is_new : goal.returns-then-is_new
returns-then-is_new c =
    let args = c.args in
    ap (λ p. ltb p (length args.old.now)) c.place_in.ensures
    ∙ free_new args.old.now args.new.now args.x (sym c.is_new.ensures ∙ c.if-is_new.true)

pub returns : goal.returns
returns c =
    let args = c.args in free_other args.old.now args.new.now args.x (sym c.is_new.ensures ∙ c.if-is_new.false)
