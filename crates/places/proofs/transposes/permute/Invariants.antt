-- `places::transposes::permute` meets its contract. The loop's invariant: the first parts of the output hold what the walk
-- finds for them.
-- Assumes nothing.
use Prim.Native.Nat.{◌*◌, ◌≤◌}
use lib.ListN.{get_or}
use Rattle.lists.proofs.Tabs.{Written}
use Rattle.places.specs.InnerWalks.{walk}
use Rattle.places.proofs.transposes.permute.Given as goal

abbrev pub invariant-loop-part : goal.invariant-loop-part
invariant-loop-part g l =
    (l.part ≤ l.parts) × Written 0 (l.part * 8 * l.count) (λ i. get_or (g.E.Element.numbers l.input) (walk l.parts l.count i) 0) (g.E.Element.numbers l.initial.output) (g.E.Element.numbers l.output)
