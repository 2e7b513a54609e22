-- The difference of two u64 values is that of the rules.
-- Assumes nothing.
use Rattle.std.proofs.Common.{◌^◌}
use Rattle.lists.specs.Numbers.{minus}
use Rattle.places.proofs.Wraps.{sub_wraps}
use Rattle.places.proofs.element.U64Element6416.wrapping_sub.Goals as goal

pub returns : goal.returns
unfolding minus
returns c = sub_wraps (2 ^ 64) _ _ _ c.ranges.other.fits c.wrapping_sub_u64.type_inv c.wrapping_sub_u64.ensures.value
