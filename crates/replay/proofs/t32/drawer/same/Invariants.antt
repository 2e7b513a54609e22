-- Written by tools/sizes from the text of size 64: edit that one, and run tools/sizes.
-- `replay::t32::drawer::same` meets its contract. The loop's invariant: the first i elements are those of the bytes.
-- Assumes nothing.
use Rattle.std.proofs.Common.{◌≡◌, ℕ, ◌*◌, ◌/◌, ◌<◌, get_or}
use Rattle.places.specs.Sizes.{t32}
use Rattle.little.specs.Little.{little}
use Rattle.replay.proofs.t32.drawer.same.Given as goal

abbrev pub invariant-loop-i : goal.invariant-loop-i
invariant-loop-i l =
    ((k : ℕ) → k < l.i → get_or l.elements k 0 ≡ little l.bytes (k * (t32 / 8)) (t32 / 8))
