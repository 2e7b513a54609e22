-- `rewrite::rewrite` meets its contract: a renumbering without pairs is a rewrite.
-- Assumes nothing.
use mathlib.Core.Path.{ap, ◌∙◌}
use Rattle.rewrite.specs.InnerPairless.{as_written}
use Rattle.rewrite.proofs.Pairless.{pairless_given, pairless_leaves}
use Rattle.rewrite.proofs.rewrite.Goals as goal

pub returns : goal.returns
returns c =
    let args = c.args in
    record { value = c.as_written.ensures ∙ ap as_written c.renumber-renumbered.ensures.value ∙ pairless_given args.file.now args.output.now; output_after = c.renumber-renumbered.ensures.output_after ∙ pairless_leaves args.file.now args.output.now }
