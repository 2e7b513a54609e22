-- `bodywise::held_block` meets its contract: the block is laid down from its body, and a refusal gets its place.
-- Assumes nothing.
use mathlib.Core.Path.{sym, ap, ◌∙◌}
use borrow.Author.Tests.{eq-eqb, ne_eqb}
use Rattle.contents.specs.Answers.{file_answer}
use Rattle.contents.proofs.Answers.{passed, stopped}
use Rattle.bodies.specs.Bodies.{block_tests, block_leaves}
use Rattle.bodywise.specs.InnerPlaced.{in_block}
use Rattle.std.proofs.lemmas.Result.{err_from_is_err_and}
use Rattle.bodywise.proofs.Steps.{entry_first, entry-passed, block_refused, block_placed, block_left}
use Rattle.bodywise.proofs.held_block.Goals as goal

pub returns-then-block-ne1024 : goal.returns-then-block-ne1024
returns-then-block-ne1024 c =
    let args = c.args in
    let both = block_refused args.front.now args.i args.body.now args.block.now (stopped _ _ (ne_eqb _ 1024 c.if-block-ne1024.true)) in record { value = both.0; block_after = both.1 }

pub returns-in_err-check_entry : goal.returns-in_err-check_entry
returns-in_err-check_entry c =
    let args = c.args in
    let given = err_from_is_err_and c.from_residual.result c.from_residual.ensures.1 in
    let both = block_refused args.front.now args.i args.body.now args.block.now
    (passed _ _ (eq-eqb _ 1024 c.if-block-ne1024.false)
    ∙ sym (entry_first args.front.now args.i _ c.in_err-check_entry.ensures)) in
    rw (given.1, given.2) record { value = both.0; block_after = both.1 }

pub returns : goal.returns
returns c =
    let args = c.args in
    let front = args.front.now in
    let body = args.body.now in
    let block = args.block.now in
    let long = c.if-block-ne1024.false in
    let right = entry-passed front args.i c.in_ok-check_entry.ensures in record {
      value = c.in_block.ensures
          ∙ ap (in_block args.i) (c.block_of.ensures.value ∙ ap (λ e. file_answer (block_tests e body block)) c.entry_or.ensures)
          ∙ block_placed front args.i body block long right;
      block_after = c.block_of.ensures.output_after ∙ ap (λ e. block_leaves e body block) c.entry_or.ensures ∙ block_left front args.i body block long right;
    }
