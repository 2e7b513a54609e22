-- `candidates::entry_for` meets its contract: the entry is the one that is measured.
-- Assumes nothing.
use Rattle.std.proofs.Common.{ap, ◌∙◌}
use Rattle.candidates.proofs.Calls.{measured_entry}
use Rattle.candidates.proofs.entry_for.Goals as goal

pub returns : goal.returns
returns c = ap (λ it. it.entry) c.measure-m.ensures ∙ measured_entry c.args.values.now
