-- The sum of two u32 values is that of the rules.
-- Assumes nothing.
use Rattle.lists.specs.Numbers.{plus}
use Rattle.places.proofs.element.U32Element3232.wrapping_add.Goals as goal

pub returns : goal.returns
unfolding plus
returns c = c.wrapping_add_u32.ensures.value
