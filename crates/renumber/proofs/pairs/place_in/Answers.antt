-- `renumber::pairs::place_in` meets its contract: the number stands where halving stops, or nowhere.
-- Assumes nothing.
use Rattle.renumber.proofs.Places.{place_found, place_none}
use native.Mathlib.Omega.{arith}
use Rattle.renumber.proofs.pairs.place_in.Goals as goal

pub returns-then-list-p : goal.returns-then-list-p
returns-then-list-p c =
    place_found c.args.list.now c.args.x c.requires c.at_least-p.result c.at_least-p.ensures (omega arith) c.if-list-p.true

pub returns-else-list-p : goal.returns-else-list-p
returns-else-list-p c =
    place_none c.args.list.now c.args.x c.requires c.at_least-p.result c.at_least-p.ensures (λ _. c.if-list-p.false)

pub returns-else-p-list : goal.returns-else-p-list
returns-else-p-list c =
    place_none c.args.list.now c.args.x c.requires c.at_least-p.result c.at_least-p.ensures (λ h. absurd (omega arith))
