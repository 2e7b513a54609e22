-- `renumber::first_taken` meets its contract: every number that was passed is free.
-- Assumes nothing.
use mathlib.Core.Bool.{true}
use mathlib.Core.Path.{◌≡◌}
use Rattle.renumber.specs.Pairs.{is_free}
use Prim.Native.Nat.{ℕ, ◌<◌}
use lib.ListN.{get_or}
use Rattle.renumber.proofs.first_taken.Given as goal

abbrev pub invariant-loop-k : goal.invariant-loop-k
invariant-loop-k l =
    (j : ℕ) → j < l.k → is_free l.old l.new (get_or l.block j 0) ≡ true
