-- `search::list_all` meets its contract. The loop's invariant: the first j rows are listed, and the next sixteen are at
-- hand.
-- Assumes nothing.
use Rattle.std.proofs.Common.{◌≡◌, ◌-◌, ◌%◌, ◌≤◌}
use Rattle.places.specs.Sizes.{t64}
use Rattle.rows.specs.Rows.{splat_of}
use Rattle.search.proofs.Within.{Numbered}
use Rattle.search.proofs.list_all.Given as goal

abbrev pub invariant-loop-j : goal.invariant-loop-j
invariant-loop-j l =
    (l.step ≡ splat_of t64 16) × (l.j ≤ 1024) × (l.j % 16 ≡ 0) × Numbered l.first l.k l.j l.initial.rows l.run l.rows

abbrev pub decreases-loop-j : goal.decreases-loop-j
decreases-loop-j l = 1024 - l.j
