-- `packing::pack_copy` meets its contract. The loop's invariant: the first r rows of words are copied, and row r starts at `start`.
-- Assumes nothing.
use Rattle.rows.proofs.Blocks.{Starts}
use Rattle.packing.proofs.Walks.{Filled}
use Rattle.packing.proofs.pack_copy.Given as goal

abbrev pub invariant-loop-r : goal.invariant-loop-r
invariant-loop-r g l = Starts l.r l.start × Filled g.row.T g.row.T (g.E.Element.numbers l.values) l.r (g.E.Element.numbers l.packed)
