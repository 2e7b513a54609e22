-- `wish_side` goes by the wish: of a read it is the number of what the read says.
-- Assumes nothing.
use mathlib.Core.Path.{sym, ap, ◌∙◌}
use Rattle.exports.specs.MachineHanded.{wish_side}
use Rattle.exports.proofs.machine.wish_side.Goals as goal

pub returns-in-Read : goal.returns-in-Read
returns-in-Read c = c.side_number.ensures ∙ sym (ap wish_side c.in-Read.is)
