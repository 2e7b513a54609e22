-- `stream::same_numbers` meets its contract. The loop's invariant: the first i numbers are the same.
-- Assumes nothing.
use Rattle.stream.specs.Expected.{Agree}
use Rattle.stream.proofs.same_numbers.Given as goal

abbrev pub invariant-loop-i : goal.invariant-loop-i
invariant-loop-i l = Agree l.i l.x l.y
