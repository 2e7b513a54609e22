-- `bodies::range_of` meets its contract: the lowest and the highest number of the places passed, with those to come,
-- are those of all. A turn passes two places.
-- Assumes nothing.
use Prim.Native.Nat.{◌*◌}
use Rattle.lists.proofs.Highs.{Passed as Highs}
use Rattle.lists.proofs.Lows.{Passed as Lows}
use Rattle.bodies.proofs.range_of.Given as goal

abbrev pub invariant-loop-i : goal.invariant-loop-i
invariant-loop-i l = Lows l.values l.low (l.i * 2) × Highs l.values l.high (l.i * 2)
