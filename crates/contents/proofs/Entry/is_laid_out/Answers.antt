-- `contents::Entry::is_laid_out` meets its contract: by what `is_of_kind` ensures.
-- Assumes nothing.
use Rattle.contents.specs.Contents.{is_laid_out}
use Rattle.contents.proofs.Entry.is_laid_out.Goals as goal

pub returns : goal.returns
unfolding is_laid_out
returns c = simp c.is_of_kind.ensures
