-- `plain::words_for` meets its contract. The loop's invariant: the words of the first b bits are counted.
-- Assumes nothing.
use mathlib.Core.Path.{◌≡◌}
use Rattle.plain.specs.Plain.{words_for}
use Rattle.plain.proofs.words_for.Given as goal

abbrev pub invariant-loop-b : goal.invariant-loop-b
invariant-loop-b l = l.words ≡ words_for l.t l.width l.row l.b
