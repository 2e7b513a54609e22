-- `deltas::differences` meets its contract. The loops' invariants: the first rows hold their differences, and prev
-- is the row before the next one.
-- Assumes nothing.
use mathlib.Core.Path.{◌≡◌}
use Prim.Native.Nat.{◌+◌, ◌*◌}
use lib.ListN.{get_or}
use Rattle.lists.specs.Numbers.{minus}
use Rattle.rows.proofs.Blocks.{Laid}
use Rattle.deltas.specs.Deltas.{before}
use Rattle.deltas.proofs.Walks.{row_before_lem}
use Rattle.deltas.proofs.differences.Given as goal

abbrev pub invariant-loop-i : goal.invariant-loop-i
invariant-loop-i g l =
    let numbers = g.E.Element.numbers in
    (numbers l.prev ≡ row_before_lem g.row.T (numbers l.input) (numbers l.base) (l.o * 8 + l.i))
    × Laid g.row.T (l.o * 8 + l.i) (λ p. minus g.row.T (get_or (numbers l.input) p 0) (before g.row.T (numbers l.input) (numbers l.base) p)) (numbers l.output)

abbrev pub invariant-loop-o : goal.invariant-loop-o
invariant-loop-o g l =
    let numbers = g.E.Element.numbers in
    (numbers l.prev ≡ row_before_lem g.row.T (numbers l.input) (numbers l.base) (l.o * 8))
    × Laid g.row.T (l.o * 8) (λ p. minus g.row.T (get_or (numbers l.input) p 0) (before g.row.T (numbers l.input) (numbers l.base) p)) (numbers l.output)
