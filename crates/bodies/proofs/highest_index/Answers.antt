-- `bodies::highest_index` meets its contract: the indices are read whole.
-- Assumes nothing.
use mathlib.Core.Path.{refl, ap, ◌∙◌}
use native.Mathlib.Omega.{arith}
use lib.ListN.{replicate}
use Rattle.lists.specs.Ends.{highest_of}
use Rattle.bodies.proofs.Bodies.{numbers-read}
use Rattle.bodies.proofs.highest_index.Goals as goal

pub returns : goal.returns
returns c =
    let body = c.args.body.now in
    c.highest.ensures ∙ ap highest_of (c.read_pairs.ensures ∙ numbers-read 2 body (replicate 1024 0) 1024 refl (omega arith))
