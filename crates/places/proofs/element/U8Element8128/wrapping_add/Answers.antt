-- The sum of two u8 values is that of the rules.
-- Assumes nothing.
use Rattle.lists.specs.Numbers.{plus}
use Rattle.places.proofs.element.U8Element8128.wrapping_add.Goals as goal

pub returns : goal.returns
unfolding plus
returns c = c.wrapping_add_u8.ensures.value
