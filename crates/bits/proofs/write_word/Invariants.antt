-- `bits::write_word` meets its contract. The loop's invariant: the first i bytes are written.
-- Assumes nothing.
use Rattle.lists.proofs.Tabs.{Written}
use Rattle.bits.specs.InnerSteps.{byte_of}
use Rattle.bits.proofs.write_word.Given as goal

abbrev pub invariant-loop-i : goal.invariant-loop-i
invariant-loop-i l = Written l.at l.i (byte_of l.word) l.initial.bytes l.bytes
