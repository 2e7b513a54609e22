-- `packing::unpack_copy` meets its contract. The loop's invariant: the first r rows hold their values, and row r starts at `start`.
-- Assumes nothing.
use Rattle.rows.proofs.Blocks.{Laid, Starts}
use Rattle.packing.specs.Packed.{value_at}
use Rattle.packing.proofs.unpack_copy.Given as goal

abbrev pub invariant-loop-r : goal.invariant-loop-r
invariant-loop-r g l = Starts l.r l.start × Laid g.row.T l.r (value_at g.row.T g.row.T (g.E.Element.numbers l.packed)) (g.E.Element.numbers l.values)
