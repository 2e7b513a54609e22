-- `replay::wire::numbers` meets its contract. The loop's invariant: the first i numbers are written.
-- Assumes nothing.
use Rattle.std.proofs.Common.{◌*◌}
use Rattle.lists.proofs.Tabs.{Written}
use Rattle.little.specs.Little.{little}
use Rattle.replay.proofs.wire.numbers.Given as goal

abbrev pub invariant-loop-i : goal.invariant-loop-i
invariant-loop-i l = Written 0 l.i (λ k. little l.bytes (k * l.size) l.size) l.initial.out l.out
