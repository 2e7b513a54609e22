-- `places::transposes::gather_part` meets its contract. The loop's invariant: the first o runs of the part stand in their
-- places.
-- Assumes nothing.
use Prim.Native.Nat.{◌+◌, ◌*◌, ◌≤◌}
use lib.ListN.{get_or}
use Rattle.lists.proofs.Tabs.{Written}
use Rattle.places.specs.InnerWalks.{walk}
use Rattle.places.proofs.transposes.gather_part.Given as goal

abbrev pub invariant-loop-o : goal.invariant-loop-o
invariant-loop-o g l =
    (l.o ≤ 8) × Written (l.part * 8 * l.count) (l.o * l.count) (λ i. get_or (g.E.Element.numbers l.input) (walk l.parts l.count (l.part * 8 * l.count + i)) 0) (g.E.Element.numbers l.initial.output) (g.E.Element.numbers l.output)
