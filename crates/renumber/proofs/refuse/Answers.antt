-- `renumber::refuse` meets its contract: by the file's own answer.
-- Assumes nothing.
use mathlib.Core.Path.{ap}
use Rattle.renumber.specs.InnerBlocks.{first_of}
use Rattle.renumber.proofs.refuse.Goals as goal

pub returns-in-Ok : goal.returns-in-Ok
returns-in-Ok c = ap (λ a. first_of a c.args.otherwise) c.in-Ok.ensures

pub returns-in-Err : goal.returns-in-Err
returns-in-Err c = ap (λ a. first_of a c.args.otherwise) c.in-Err.ensures
