-- `plain::pack_words` meets its contract. The loop's invariant: the first i words stand in their places.
-- Assumes nothing.
use Prim.Native.Nat.{◌/◌, ◌%◌}
use Rattle.lists.proofs.Tabs.{Written}
use Rattle.plain.specs.Plain.{word_in}
use Rattle.plain.proofs.pack_words.Given as goal

abbrev pub invariant-loop-i : goal.invariant-loop-i
invariant-loop-i g l =
    Written 0 l.i (λ i. word_in g.row.T l.width (g.E.Element.numbers l.values) (i % g.row.LANES) (i / g.row.LANES)) (g.E.Element.numbers l.initial.packed) (g.E.Element.numbers l.packed)
