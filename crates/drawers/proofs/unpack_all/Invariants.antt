-- `drawers::unpack_all` meets its contract. The loop's invariant: the first b blocks are turned.
-- Assumes nothing.
use Rattle.std.proofs.Common.{◌*◌}
use Rattle.places.specs.Sizes.{lanes}
use Rattle.packing.specs.Packed.{unpack_of}
use Rattle.drawers.proofs.Parts.{Turned}
use Rattle.drawers.proofs.unpack_all.Given as goal

abbrev pub invariant-loop-b : goal.invariant-loop-b
invariant-loop-b g l =
    let numbers = g.E.Element.numbers in
    Turned (lanes g.row.T * l.width) 1024 (unpack_of g.row.T l.width) l.b (numbers l.packed) (numbers l.initial.values) (numbers l.values)
