-- `files::is_right` meets its contract: what is read of the entry tells whether it is right.
-- Assumes nothing.
use Rattle.std.proofs.Common.{ap, ◌∙◌, ap₂}
use Rattle.lists.specs.Pick.{both}
use Rattle.contents.specs.Contents.{is_laid_out, is_taken_in, is_ordered}
use Rattle.files.proofs.Places.{right-read}
use Rattle.files.proofs.is_right.Goals as goal

pub returns : goal.returns
returns c =
    ap₂ both
    (c.is_laid_out.ensures ∙ ap is_laid_out c.requires)
    (ap₂ both
    (c.takes.ensures ∙ ap₂ is_taken_in c.edition.ensures c.requires)
    (c.is_ordered.ensures ∙ ap is_ordered c.range_or.ensures))
    ∙ right-read c.args.file.now c.args.i
