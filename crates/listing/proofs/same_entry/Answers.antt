-- `listing::same_entry` meets its contract, field by field.
-- Assumes nothing.
use Rattle.listing.proofs.Same.{entry-same}
use Rattle.listing.proofs.same_entry.Goals as goal

pub returns : goal.returns
returns c = entry-same _ _
