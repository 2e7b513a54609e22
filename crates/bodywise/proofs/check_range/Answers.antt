-- `bodywise::check_range` meets its contract: the block is laid down, and its range held to it.
-- Assumes nothing.
use mathlib.Core.Path.{refl, sym, ap, ◌∙◌}
use lib.ListN.{replicate}
use Rattle.contents.specs.Answers.{file_answer}
use Rattle.contents.specs.Contents.{entry_or}
use Rattle.bodies.specs.Bodies.{block_of, block_leaves}
use Rattle.bodywise.specs.Steps.{range_tests}
use Rattle.bodywise.proofs.Steps.{block_laid, body-done, done-right, range_none, range-answer}
use Rattle.bodywise.proofs.check_range.Goals as goal

pub returns-then-edition-ne2 : goal.returns-then-edition-ne2
returns-then-edition-ne2 c =
    let front = c.args.front.now in
    let block = block_of (entry_or front c.args.i) c.args.body.now in
    sym (range-answer front c.args.i block (done-right front c.args.i _ c.requires)
    (range_none front c.args.i block (λ e. c.if-edition-ne2.true (c.edition.ensures ∙ e))))

pub returns : goal.returns
returns c =
    let front = c.args.front.now in
    let body = c.args.body.now in
    c.check_block.ensures
    ∙ ap (λ b. file_answer (range_tests front c.args.i b))
    (c.block_of.ensures.output_after
    ∙ ap (λ e. block_leaves e body (replicate 1024 0)) c.entry_or.ensures
    ∙ block_laid (entry_or front c.args.i) body (replicate 1024 0) (body-done front c.args.i body c.requires) refl)
