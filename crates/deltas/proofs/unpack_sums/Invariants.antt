-- `deltas::unpack_sums` meets its contract. The loops' invariants: the first rows hold their sums, prev is the
-- last of them, and the walk stands where the next one begins.
-- Assumes nothing.
use Prim.Native.Nat.{◌+◌, ◌*◌}
use Rattle.packing.specs.Packed.{unpack_of}
use Rattle.packing.proofs.Walks.{At}
use Rattle.deltas.proofs.Walks.{Summing}
use Rattle.deltas.proofs.unpack_sums.Given as goal

abbrev pub invariant-loop-i : goal.invariant-loop-i
invariant-loop-i g l =
    let numbers = g.E.Element.numbers in
    At g.row.T l.width (l.o * 8 + l.i) l.s l.word × Summing g.row.T (unpack_of g.row.T l.width (numbers l.packed)) (numbers l.base) (l.o * 8 + l.i) (numbers l.values) (numbers l.prev)

abbrev pub invariant-loop-o : goal.invariant-loop-o
invariant-loop-o g l =
    let numbers = g.E.Element.numbers in
    At g.row.T l.width (l.o * 8) l.s l.word × Summing g.row.T (unpack_of g.row.T l.width (numbers l.packed)) (numbers l.base) (l.o * 8) (numbers l.values) (numbers l.prev)
