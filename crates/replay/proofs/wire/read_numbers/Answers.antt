-- `replay::wire::read_numbers` is safe and ends: 4,096 elements of 8 bytes fit.
-- Assumes nothing.
use Rattle.std.proofs.Common.{◌≡◌, ◌*◌, ◌≤◌, true, sym, ◌∙◌, mul-le-mul, arith, length-take-le, rules}
use Rattle.replay.specs.Elements.{is_size}
use Rattle.replay.proofs.Elements.{at-most_eight}
use Rattle.replay.proofs.wire.read_numbers.Goals as goal
use Rattle.replay.proofs.wire.read_numbers.Goals.{Else-not-is_bytes}

-- an element can have so many bytes
can : (c : Else-not-is_bytes) → is_size c.args.size ≡ true
can c = sym c.is_bytes.ensures ∙ c.if-not-is_bytes.false

-- all the bytes are within the array
within : (c : Else-not-is_bytes) → c.args.n * c.args.size ≤ 32768
within c = mul-le-mul {n₂ = 4096} {m₂ = 8} (omega arith) (at-most_eight _ (can c))

pub overflow_mul-total : goal.overflow_mul-total
overflow_mul-total c = omega (arith, within (goal.at.overflow_mul-total c).Else-not-is_bytes)

pub slice_bounds-bytes-end : goal.slice_bounds-bytes-end
slice_bounds-bytes-end c = within (goal.at.slice_bounds-bytes-end c).Else-not-is_bytes

pub slice_bounds-read_full-end : goal.slice_bounds-read_full-end
slice_bounds-read_full-end c = sym (length-take-le _ _ (within (goal.at.slice_bounds-read_full-end c).Else-not-is_bytes))

pub numbers-requires : goal.numbers-requires
numbers-requires c =
    record { n_bound = search rules; n_in_bounds = search rules; size_value = can (goal.at.numbers-requires c).Else-not-is_bytes }
