-- `candidates::entry_by` meets its contract: the three entries are compared two at a time.
-- Assumes nothing.
use Rattle.std.proofs.Common.{◌∙◌, ap₂}
use Rattle.candidates.specs.Measures.{shorter_entry, entry_by}
use Rattle.candidates.proofs.entry_by.Goals as goal

pub returns : goal.returns
unfolding entry_by
returns c =
    c.shorter_entry-2.ensures
    ∙ ap₂ shorter_entry (c.shorter_entry.ensures ∙ ap₂ shorter_entry c.packed_entry-plain.ensures c.packed_entry-frame.ensures) c.packed_entry-steps.ensures
