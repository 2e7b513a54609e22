-- `deltas::copy_raised` meets its contract. The loop's invariant: the first r rows hold their values, raised by
-- the reference, and row r starts at `start`.
-- Assumes nothing.
use Rattle.lists.specs.Numbers.{plus}
use Rattle.rows.proofs.Blocks.{Laid}
use Rattle.rows.proofs.Blocks.{Starts}
use Rattle.packing.specs.Packed.{value_at}
use Rattle.deltas.proofs.copy_raised.Given as goal

abbrev pub invariant-loop-r : goal.invariant-loop-r
invariant-loop-r g l =
    let numbers = g.E.Element.numbers in
    Starts l.r l.start × Laid g.row.T l.r (λ p. plus g.row.T (value_at g.row.T g.row.T (numbers l.packed) p) (g.E.Element.number l.fn.reference)) (numbers l.values)
