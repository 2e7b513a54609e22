-- `places::transposes::gather` meets its contract. The loop's invariant: the first k values of the run stand in their places.
-- Assumes nothing.
use Prim.Native.Nat.{◌+◌, ◌*◌, ◌≤◌}
use lib.ListN.{get_or}
use Rattle.lists.proofs.Tabs.{Written}
use Rattle.places.proofs.transposes.gather.Given as goal

abbrev pub invariant-loop-k : goal.invariant-loop-k
invariant-loop-k g l =
    (l.k ≤ l.count) × Written l.to l.k (λ k. get_or (g.E.Element.numbers l.input) (l.from + k * l.stride) 0) (g.E.Element.numbers l.initial.output) (g.E.Element.numbers l.output)
