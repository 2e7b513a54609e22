-- `files::body_start` meets its contract: it walks to body b.
-- Assumes nothing.
use Rattle.std.proofs.Common.{◌-◌, ◌≤◌}
use Rattle.bodywise.proofs.Walking.{Walking}
use Rattle.files.proofs.body_start.Given as goal

abbrev pub invariant-loop-body : goal.invariant-loop-body
invariant-loop-body l = (l.body.number ≤ l.b) × Walking l.file l.body

abbrev pub decreases-loop-body : goal.decreases-loop-body
decreases-loop-body l = l.b - l.body.number
