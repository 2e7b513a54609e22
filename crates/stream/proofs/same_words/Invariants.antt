-- `stream::same_words` meets its contract. The loop's invariant: the first i numbers are those of the bytes.
-- Assumes nothing.
use Rattle.std.proofs.Common.{◌≡◌, ℕ, ◌*◌, ◌<◌, get_or}
use Rattle.little.specs.Little.{little}
use Rattle.stream.proofs.same_words.Given as goal

abbrev pub invariant-loop-i : goal.invariant-loop-i
invariant-loop-i l = ((k : ℕ) → k < l.i → get_or l.words k 0 ≡ little l.bytes (k * 8) 8)
