-- `candidates::write_shortest` meets its contract: the shorter of two is compared with the third.
-- Assumes nothing.
use Rattle.std.proofs.Common.{◌+◌, ◌*◌, take, ap, ◌∙◌}
use lib.Seq.{take-length}
use Rattle.little.specs.Little.{write_leaves}
use Rattle.candidates.specs.Measures.{shorter_part}
use Rattle.candidates.proofs.write_shortest.Goals as goal

pub returns : goal.returns
returns c =
    let args = c.args in
    c.write_words.ensures
    ∙ ap (λ x. write_leaves 8 x args.output.now)
    (c.shorter-body.ensures
    ∙ ap (λ x. shorter_part x (take (16 + 16 * args.m.steps) args.steps.now)) (take-length c.shorter-first.result.now ∙ c.shorter-first.ensures))
