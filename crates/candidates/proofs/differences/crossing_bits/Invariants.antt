-- `candidates::differences::crossing_bits` meets its contract: what it has fits a width exactly when the differences
-- passed do.
-- Assumes nothing.
use Rattle.std.proofs.Common.{◌^◌, ◌<◌}
use Rattle.candidates.proofs.Widths.{Joined}
use Rattle.candidates.proofs.Steps.{crossings}
use Rattle.candidates.proofs.differences.crossing_bits.Given as goal

abbrev pub invariant-loop-l : goal.invariant-loop-l
invariant-loop-l l = (l.any < 2 ^ 64) × Joined (crossings l.values l.from l.to) l.any l.l
