-- The sum of two u64 values is that of the rules.
-- Assumes nothing.
use Rattle.lists.specs.Numbers.{plus}
use Rattle.places.proofs.element.U64Element6416.wrapping_add.Goals as goal

pub returns : goal.returns
unfolding plus
returns c = c.wrapping_add_u64.ensures.value
