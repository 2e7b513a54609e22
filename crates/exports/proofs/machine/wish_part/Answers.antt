-- `wish_part` goes by the wish: of a read it is the number of what the read says.
-- Assumes nothing.
use mathlib.Core.Path.{sym, ap, ◌∙◌}
use Rattle.exports.specs.MachineHanded.{wish_part}
use Rattle.exports.proofs.machine.wish_part.Goals as goal

pub returns-in-Read : goal.returns-in-Read
returns-in-Read c = c.part_number.ensures ∙ sym (ap wish_part c.in-Read.is)
