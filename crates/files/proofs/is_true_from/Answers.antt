-- `files::is_true_from` meets its contract: zeros are lent.
-- Assumes nothing.
use Rattle.files.specs.Froms.{true_from}
use Rattle.files.proofs.is_true_from.Goals as goal

pub returns : goal.returns
unfolding true_from
returns c = c.is_true_in.ensures.value
