-- `packing::unpack_split` meets its contract. The loops' invariants: the first rows hold their values, and the
-- walk stands where the next one begins.
-- Assumes nothing.
use Rattle.std.proofs.Common.{◌+◌, ◌*◌}
use Rattle.rows.proofs.Blocks.{Laid}
use Rattle.packing.specs.Packed.{value_at}
use Rattle.packing.proofs.Walks.{At}
use Rattle.packing.proofs.unpack_split.Given as goal

abbrev pub invariant-loop-i : goal.invariant-loop-i
invariant-loop-i g l =
    let numbers = g.E.Element.numbers in
    At g.row.T l.width (l.o * 8 + l.i) l.s l.word × Laid g.row.T (l.o * 8 + l.i) (value_at g.row.T l.width (numbers l.packed)) (numbers l.values)

abbrev pub invariant-loop-o : goal.invariant-loop-o
invariant-loop-o g l =
    let numbers = g.E.Element.numbers in
    At g.row.T l.width (l.o * 8) l.s l.word × Laid g.row.T (l.o * 8) (value_at g.row.T l.width (numbers l.packed)) (numbers l.values)
