-- `files::lookup::run_value` meets its contract: the index is read, and then the value that it says.
-- Assumes nothing.
use Rattle.std.proofs.Common.{◌+◌, ◌*◌, ap, ◌∙◌}
use Rattle.little.specs.Little.{little_or}
use Rattle.files.proofs.lookup.run_value.Goals as goal

pub returns : goal.returns
returns c =
    let body = c.args.body.now in
    c.word.ensures ∙ ap (λ k. little_or body (2048 + k * 8) 8) c.pair-k.ensures
