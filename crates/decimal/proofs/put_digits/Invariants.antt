-- `decimal::put_digits` meets its contract: what is laid so far, with the text of the rest laid before it, is the text
-- of the number.
-- Assumes nothing.
use mathlib.Core.Path.{◌≡◌}
use Prim.Native.Nat.{◌+◌, ◌≤◌}
use lib.ListN.{length}
use Rattle.lists.specs.Tab.{over}
use Rattle.decimal.specs.Decimal.{text_of}
use Rattle.decimal.proofs.put_digits.Given as goal

abbrev pub invariant-loop-i : goal.invariant-loop-i
invariant-loop-i l =
    (length l.out ≡ length l.initial.out) × (l.i + 1 ≡ length (text_of l.rest)) × (l.i + 1 ≤ l.k) × (over 0 (text_of l.rest) l.out ≡ over 0 (text_of l.n) l.initial.out)

abbrev pub decreases-loop-i : goal.decreases-loop-i
decreases-loop-i l = l.i
