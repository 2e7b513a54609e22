-- `deltas::unpack_raised` meets its contract. The loops' invariants: the first rows hold their values, raised by
-- the reference, and the walk stands where the next one begins.
-- Assumes nothing.
use Prim.Native.Nat.{◌+◌, ◌*◌}
use Rattle.lists.specs.Numbers.{plus}
use Rattle.rows.proofs.Blocks.{Laid}
use Rattle.packing.specs.Packed.{value_at}
use Rattle.packing.proofs.Walks.{At}
use Rattle.deltas.proofs.unpack_raised.Given as goal

abbrev pub invariant-loop-i : goal.invariant-loop-i
invariant-loop-i g l =
    let numbers = g.E.Element.numbers in
    At g.row.T l.width (l.o * 8 + l.i) l.s l.word
    × Laid g.row.T (l.o * 8 + l.i) (λ p. plus g.row.T (value_at g.row.T l.width (numbers l.packed) p) (g.E.Element.number l.fn.reference)) (numbers l.values)

abbrev pub invariant-loop-o : goal.invariant-loop-o
invariant-loop-o g l =
    let numbers = g.E.Element.numbers in
    At g.row.T l.width (l.o * 8) l.s l.word
    × Laid g.row.T (l.o * 8) (λ p. plus g.row.T (value_at g.row.T l.width (numbers l.packed) p) (g.E.Element.number l.fn.reference)) (numbers l.values)
