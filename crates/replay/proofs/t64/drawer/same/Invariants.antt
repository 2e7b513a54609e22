-- `replay::t64::drawer::same` meets its contract. The loop's invariant: the first i elements are those of the bytes.
-- Assumes nothing.
use Rattle.std.proofs.Common.{◌≡◌, ℕ, ◌*◌, ◌/◌, ◌<◌, get_or}
use Rattle.places.specs.Sizes.{t64}
use Rattle.little.specs.Little.{little}
use Rattle.replay.proofs.t64.drawer.same.Given as goal

abbrev pub invariant-loop-i : goal.invariant-loop-i
invariant-loop-i l =
    ((k : ℕ) → k < l.i → get_or l.elements k 0 ≡ little l.bytes (k * (t64 / 8)) (t64 / 8))
