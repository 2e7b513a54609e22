-- The sum of two u16 values is that of the rules.
-- Assumes nothing.
use Rattle.lists.specs.Numbers.{plus}
use Rattle.places.proofs.element.U16Element1664.wrapping_add.Goals as goal

pub returns : goal.returns
unfolding plus
returns c = c.wrapping_add_u16.ensures.value
