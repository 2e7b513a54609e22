-- `wish_length` goes by the wish: of a read it is what the read says.
-- Assumes nothing.
use mathlib.Core.Path.{sym, ap}
use Rattle.exports.specs.MachineHanded.{wish_length}
use Rattle.exports.proofs.machine.wish_length.Goals as goal

pub returns-in-Read : goal.returns-in-Read
returns-in-Read c = sym (ap wish_length c.in-Read.is)
