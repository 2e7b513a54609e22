-- `told` tells the state number by number.
-- Assumes nothing.
use mathlib.Core.Path.{ap, ◌∙◌}
use lib.ListN.{get_or}
use Rattle.exports.specs.MachineHanded.{stage_of}
use Rattle.exports.proofs.machine.told.Goals as goal

pub returns : goal.returns
returns c =
    let t = c.args.numbers in
    ap (λ stage. record {
      stage = stage;
      number = get_or t 2 0;
      left = record { size = get_or t 3 0; at = get_or t 4 0 };
      right = record { size = get_or t 5 0; at = get_or t 6 0 };
      differences = get_or t 7 0;
    })
    (c.stage_of.ensures ∙ ap (stage_of (get_or t 0 0)) c.side_of.ensures)
