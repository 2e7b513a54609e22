-- `bodies::walks::summed_split` meets its contract. The loops' invariants: the first rows hold their sums, prev is the
-- last of them, and the walk stands where the next one begins.
-- Assumes nothing.
use Prim.Native.Nat.{◌+◌, ◌*◌}
use Rattle.places.specs.Sizes.{t64}
use Rattle.packing.specs.Packed.{unpack_of}
use Rattle.deltas.proofs.Walks.{Summing}
use Rattle.bodies.specs.Bodies.{packed_from}
use Rattle.bodies.proofs.Bytes.{Stands}
use Rattle.bodies.proofs.walks.summed_split.Given as goal

abbrev pub invariant-loop-i : goal.invariant-loop-i
invariant-loop-i l =
    Stands l.width (l.o * 8 + l.i) l.s l.at × Summing t64 (unpack_of t64 l.width (packed_from l.body 0 l.width)) l.base (l.o * 8 + l.i) l.values l.prev

abbrev pub invariant-loop-o : goal.invariant-loop-o
invariant-loop-o l =
    Stands l.width (l.o * 8) l.s l.at × Summing t64 (unpack_of t64 l.width (packed_from l.body 0 l.width)) l.base (l.o * 8) l.values l.prev
