-- `candidates::differences::step_bits` meets its contract: what the first loop has fits a width exactly when the
-- differences within the eights that it passed do, and what the second has when those and the crossings that it passed
-- do.
-- Assumes nothing.
use Rattle.std.proofs.Common.{◌^◌, ◌<◌}
use Rattle.candidates.proofs.Widths.{Joined}
use Rattle.candidates.proofs.Steps.{withins, Stepped}
use Rattle.candidates.proofs.differences.step_bits.Given as goal

abbrev pub invariant-loop-p : goal.invariant-loop-p
invariant-loop-p l = (l.any < 2 ^ 64) × Joined (withins l.values) l.any l.p

abbrev pub invariant-loop-o : goal.invariant-loop-o
invariant-loop-o l = Stepped l.values l.any l.o
