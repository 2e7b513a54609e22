-- `files::lookup::sum_to` meets its contract. The loop's invariant: the sum is that of the rows before row k.
-- Assumes nothing.
use Rattle.std.proofs.Common.{◌≡◌}
use Rattle.lists.specs.Numbers.{digit}
use Rattle.places.specs.Sizes.{t64}
use Rattle.packing.specs.Packed.{words_number}
use Rattle.bodies.specs.Bodies.{packed_from}
use Rattle.files.proofs.Lookups.{sum_before}
use Rattle.files.proofs.lookup.sum_to.Given as goal

abbrev pub invariant-loop-k : goal.invariant-loop-k
invariant-loop-k l =
    l.sum ≡ sum_before (digit l.width (words_number t64 l.width (packed_from l.body 0 l.width) l.l)) l.base l.k
