-- `renumber::pairs::first_unrising` meets its contract: the list rises at every place that was passed.
-- Assumes nothing.
use mathlib.Core.Bool.{true}
use mathlib.Core.Path.{◌≡◌}
use Rattle.renumber.specs.Pairs.{rises_at}
use Prim.Native.Nat.{ℕ, ◌<◌}
use Rattle.renumber.proofs.pairs.first_unrising.Given as goal

abbrev pub invariant-loop-i : goal.invariant-loop-i
invariant-loop-i l = (k : ℕ) → k < l.i → rises_at l.list k ≡ true
