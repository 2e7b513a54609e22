-- `decimal::read_digits` meets its contract: the number so far, with the digits to come behind it, is the number of
-- all.
-- Assumes nothing.
use mathlib.Core.Path.{◌≡◌}
use Prim.Native.Nat.{◌<◌}
use lib.ListN.{drop}
use Rattle.decimal.specs.Decimal.{digits_of, value_from, value_of}
use Rattle.decimal.proofs.read_digits.Given as goal

abbrev pub invariant-loop-i : goal.invariant-loop-i
invariant-loop-i l =
    (l.v < 18446744073709551616) × (value_from l.v (drop l.i (digits_of l.text)) ≡ value_of (digits_of l.text))
