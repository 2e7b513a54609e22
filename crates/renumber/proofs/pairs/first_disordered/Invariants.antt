-- `renumber::pairs::first_disordered` meets its contract: the order is right at every place that was passed.
-- Assumes nothing.
use mathlib.Core.Bool.{true}
use mathlib.Core.Path.{◌≡◌}
use Rattle.renumber.specs.Pairs.{is_ordered_at}
use Prim.Native.Nat.{ℕ, ◌<◌}
use Rattle.renumber.proofs.pairs.first_disordered.Given as goal

abbrev pub invariant-loop-i : goal.invariant-loop-i
invariant-loop-i l = (k : ℕ) → k < l.i → is_ordered_at l.new l.order k ≡ true
