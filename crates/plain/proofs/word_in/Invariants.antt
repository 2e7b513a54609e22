-- `plain::word_in` meets its contract. The loop's invariant: the word is made of the first j bits.
-- Assumes nothing.
use mathlib.Core.Path.{◌≡◌}
use Rattle.lists.specs.Numbers.{number}
use Rattle.plain.specs.Plain.{bit_of}
use Rattle.plain.proofs.word_in.Given as goal

abbrev pub invariant-loop-j : goal.invariant-loop-j
invariant-loop-j g l = g.E.Element.number l.word ≡ number 1 (bit_of g.row.T l.width (g.E.Element.numbers l.values) l.lane l.k) l.j
