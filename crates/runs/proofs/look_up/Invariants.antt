-- `runs::look_up` meets its contract. The loops' invariants: the first places of the output hold their values.
-- Assumes nothing.
use Prim.Native.Nat.{◌+◌, ◌*◌}
use lib.ListN.{get_or}
use Rattle.lists.proofs.Tabs.{Written}
use Rattle.runs.proofs.look_up.Given as goal

abbrev pub invariant-loop-i : goal.invariant-loop-i
invariant-loop-i g l =
    Written (l.o * 8) l.i (λ k. get_or (g.E.Element.numbers l.dictionary) (get_or l.indices (l.o * 8 + k) 0) 0) (g.E.Element.numbers l.initial.output) (g.E.Element.numbers l.output)

abbrev pub invariant-loop-o : goal.invariant-loop-o
invariant-loop-o g l =
    Written 0 (l.o * 8) (λ k. get_or (g.E.Element.numbers l.dictionary) (get_or l.indices k 0) 0) (g.E.Element.numbers l.initial.output) (g.E.Element.numbers l.output)
