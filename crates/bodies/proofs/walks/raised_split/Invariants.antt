-- `bodies::walks::raised_split` meets its contract. The loops' invariants: the first rows hold their values, raised by
-- the reference, and the walk stands where the next one begins.
-- Assumes nothing.
use Prim.Native.Nat.{◌+◌, ◌*◌}
use Rattle.lists.specs.Numbers.{plus}
use Rattle.places.specs.Sizes.{t64}
use Rattle.rows.proofs.Blocks.{Laid}
use Rattle.packing.specs.Packed.{value_at}
use Rattle.bodies.specs.Bodies.{packed_from}
use Rattle.bodies.proofs.Bytes.{Stands}
use Rattle.bodies.proofs.walks.raised_split.Given as goal

abbrev pub invariant-loop-i : goal.invariant-loop-i
invariant-loop-i l =
    Stands l.width (l.o * 8 + l.i) l.s l.at
    × Laid t64 (l.o * 8 + l.i) (λ p. plus t64 (value_at t64 l.width (packed_from l.body 0 l.width) p) l.reference) l.values

abbrev pub invariant-loop-o : goal.invariant-loop-o
invariant-loop-o l =
    Stands l.width (l.o * 8) l.s l.at
    × Laid t64 (l.o * 8) (λ p. plus t64 (value_at t64 l.width (packed_from l.body 0 l.width) p) l.reference) l.values
