-- `deltas::sums` meets its contract. The loops' invariants: the first rows are summed, and prev is the last of
-- them.
-- Assumes nothing.
use Prim.Native.Nat.{◌+◌, ◌*◌}
use Rattle.deltas.proofs.Walks.{Summing}
use Rattle.deltas.proofs.sums.Given as goal

abbrev pub invariant-loop-i : goal.invariant-loop-i
invariant-loop-i g l =
    let numbers = g.E.Element.numbers in
    Summing g.row.T (numbers l.input) (numbers l.base) (l.o * 8 + l.i) (numbers l.output) (numbers l.prev)

abbrev pub invariant-loop-o : goal.invariant-loop-o
invariant-loop-o g l =
    let numbers = g.E.Element.numbers in
    Summing g.row.T (numbers l.input) (numbers l.base) (l.o * 8) (numbers l.output) (numbers l.prev)
