-- `rows::shr` meets its contract. The loop's invariant: the first values of the row are divided.
-- Assumes nothing.
use Rattle.std.proofs.Common.{◌/◌, ◌^◌, ◌%◌, get_or}
use Rattle.lists.proofs.Tabs.{Written}
use Rattle.rows.proofs.shr.Given as goal

abbrev pub invariant-loop-v : goal.invariant-loop-v
invariant-loop-v g vars = Written 0 vars.v-index (λ l. get_or (g.E.Element.numbers vars.fn.x) l 0 / 2 ^ (vars.fn.s % g.row.T)) (g.E.Element.numbers vars.fn.x) (g.E.Element.numbers vars.v-items)
