-- `decimal::length_of` meets its contract: the digits counted so far and those of the rest are all digits.
-- Assumes nothing.
use mathlib.Core.Path.{◌≡◌}
use Prim.Native.Nat.{◌+◌, ◌≤◌}
use lib.ListN.{length}
use Rattle.decimal.specs.Decimal.{text_of}
use Rattle.decimal.proofs.length_of.Given as goal

abbrev pub invariant-loop-rest : goal.invariant-loop-rest
invariant-loop-rest l = (l.k + length (text_of l.rest) ≡ length (text_of l.n) + 1) × (l.k + l.rest ≤ l.n + 1)

abbrev pub decreases-loop-rest : goal.decreases-loop-rest
decreases-loop-rest l = l.rest
