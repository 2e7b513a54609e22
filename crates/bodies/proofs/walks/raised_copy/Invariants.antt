-- `bodies::walks::raised_copy` meets its contract. The loop's invariant: the first r rows hold their values, raised by
-- the reference, and row r starts at `start`.
-- Assumes nothing.
use Rattle.lists.specs.Numbers.{plus}
use Rattle.places.specs.Sizes.{t64}
use Rattle.rows.proofs.Blocks.{Laid}
use Rattle.rows.proofs.Blocks.{Starts}
use Rattle.packing.specs.Packed.{value_at}
use Rattle.bodies.specs.Bodies.{packed_from}
use Rattle.bodies.proofs.walks.raised_copy.Given as goal

abbrev pub invariant-loop-r : goal.invariant-loop-r
invariant-loop-r l =
    Starts l.r l.start × Laid t64 l.r (λ p. plus t64 (value_at t64 t64 (packed_from l.body 0 t64) p) l.reference) l.values
