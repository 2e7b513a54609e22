-- `decimal::first_other` meets its contract: the bytes passed are digits.
-- Assumes nothing.
use Prim.Native.Nat.{ℕ, ◌<◌}
use lib.ListN.{get_or}
use Rattle.decimal.specs.Decimal.{digits_of}
use Rattle.decimal.proofs.first_other.Given as goal

abbrev pub invariant-loop-i : goal.invariant-loop-i
invariant-loop-i l = (k : ℕ) → k < l.i → get_or (digits_of l.text) k 0 < 10
