-- `files::block_from` meets its contract: it hands on what `block_of` answers and leaves.
-- Assumes nothing.
use Rattle.std.proofs.Common.{◌∙◌, ap₂}
use Rattle.contents.specs.Answers.{file_answer}
use Rattle.bodies.specs.Bodies.{block_tests, block_leaves}
use Rattle.files.specs.Froms.{from_leaves}
use Rattle.files.proofs.block_from.Goals as goal

pub returns : goal.returns
unfolding from_leaves
returns c =
    let output = c.args.output.now in record {
      value = c.block_of.ensures.value
          ∙ ap₂ (λ e body. file_answer (block_tests e body output)) c.entry_or.ensures c.body_from.ensures;
      output_after = c.block_of.ensures.output_after
          ∙ ap₂ (λ e body. block_leaves e body output) c.entry_or.ensures c.body_from.ensures;
    }
