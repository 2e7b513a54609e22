-- `contents::bodies_of` meets its contract. The loop's invariant: the sum is that of the entries passed, each of which
-- is below 2^32, and `at` is where the next one begins.
-- Assumes nothing.
use mathlib.Core.Path.{◌≡◌}
use Prim.Native.Nat.{◌*◌, ◌≤◌}
use Rattle.contents.specs.Contents.{bodies_size, contents_size}
use Rattle.contents.proofs.bodies_of.Given as goal

abbrev pub invariant-loop-i : goal.invariant-loop-i
invariant-loop-i l =
    (l.sum ≡ bodies_size l.front l.i) × (l.sum ≤ 4294967296 * l.i) × (l.at ≡ contents_size l.edition l.i)
