-- `drawers::for_pack_all` meets its contract. The loop's invariant: the first b blocks are turned.
-- Assumes nothing.
use Rattle.std.proofs.Common.{◌*◌}
use Rattle.places.specs.Sizes.{lanes}
use Rattle.deltas.specs.Deltas.{for_pack_of}
use Rattle.drawers.proofs.Parts.{Turned}
use Rattle.drawers.proofs.for_pack_all.Given as goal

abbrev pub invariant-loop-b : goal.invariant-loop-b
invariant-loop-b g l =
    let numbers = g.E.Element.numbers in
    Turned 1024 (lanes g.row.T * l.width) (λ block. for_pack_of g.row.T l.width block (g.E.Element.number l.fn.reference)) l.b (numbers l.values) (numbers l.initial.packed) (numbers l.packed)
