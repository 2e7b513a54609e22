-- `plain::value_in` meets its contract. The loop's invariant: the value is made of the first b bits.
-- Assumes nothing.
use mathlib.Core.Path.{◌≡◌}
use Rattle.lists.specs.Numbers.{number}
use Rattle.plain.specs.Plain.{bit_at}
use Rattle.plain.proofs.value_in.Given as goal

abbrev pub invariant-loop-b : goal.invariant-loop-b
invariant-loop-b g l = g.E.Element.number l.value ≡ number 1 (bit_at g.row.T l.width (g.E.Element.numbers l.packed) l.lane l.row) l.b
