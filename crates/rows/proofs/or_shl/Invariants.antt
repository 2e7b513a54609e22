-- `rows::or_shl` meets its contract. The loop's invariant: the first values of the row are joined.
-- Assumes nothing.
use Rattle.std.proofs.Common.{◌*◌, ◌%◌, ◌^◌, bit_or, get_or}
use Rattle.lists.proofs.Tabs.{Written}
use Rattle.rows.proofs.or_shl.Given as goal

abbrev pub invariant-loop-l : goal.invariant-loop-l
invariant-loop-l g vars = Written 0 vars.l (λ l. bit_or (get_or (g.E.Element.numbers vars.fn.x) l 0) (get_or (g.E.Element.numbers vars.fn.y) l 0 * 2 ^ (vars.fn.s % g.row.T) % 2 ^ g.row.T)) (g.E.Element.numbers vars.fn.x) (g.E.Element.numbers vars.z)
