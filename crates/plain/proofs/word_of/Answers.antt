-- `plain::word_of` meets its contract: the row's bits are among those of its lane, so their number does not wrap.
-- Assumes nothing.
use mathlib.Core.Path.{refl}
use Prim.Native.Nat.{◌*◌, ◌≤◌}
use native.Mathlib.Omega.{arith}
use Rattle.places.proofs.Places.{size-most}
use Rattle.plain.proofs.Words.{lane-bits}
use Rattle.plain.proofs.word_of.Goals as goal
use Rattle.plain.proofs.word_of.Goals.{Start}

few : (c : Start) → c.args.row * c.args.width ≤ 4096
few c = lane-bits c.requires.size c.requires.width_le_t.1 c.requires.width_le_t.0

pub overflow_mul-result : goal.overflow_mul-result
overflow_mul-result c = omega (arith, few (goal.at.overflow_mul-result c).Start)

pub overflow_add-result : goal.overflow_add-result
overflow_add-result c = omega (arith, few (goal.at.overflow_add-result c).Start, size-most c.requires.size)

pub returns : goal.returns
returns c = refl
