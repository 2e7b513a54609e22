-- `little::lay_words` meets its contract. The loop's invariant: the bytes of the first i numbers are laid down.
-- Assumes nothing.
use Rattle.little.proofs.Bytes.{Laid}
use Rattle.little.proofs.lay_words.Given as goal

abbrev pub invariant-loop-i : goal.invariant-loop-i
invariant-loop-i l = Laid 8 l.i l.words l.initial.bytes l.bytes
