-- `contents::bad_entry` meets its contract. The loop's invariant: every entry that was passed is right, and `at` is
-- where the next one begins.
-- Assumes nothing.
use mathlib.Core.Bool.{true}
use mathlib.Core.Path.{◌≡◌}
use Prim.Native.Nat.{ℕ, ◌-◌, ◌≤◌, ◌<◌}
use Rattle.contents.specs.Contents.{contents_size, is_right}
use Rattle.contents.proofs.bad_entry.Given as goal

abbrev pub invariant-loop-i : goal.invariant-loop-i
invariant-loop-i l =
    (l.i ≤ l.n) × ((k : ℕ) → k < l.i → is_right l.front k ≡ true) × (l.at ≡ contents_size l.edition l.i)

abbrev pub decreases-loop-i : goal.decreases-loop-i
decreases-loop-i l = l.n - l.i
