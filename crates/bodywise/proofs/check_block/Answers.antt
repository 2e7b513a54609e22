-- `bodywise::check_block` meets its contract: the entry is tested, and in edition 2 the range is held to the block.
-- Assumes nothing.
use mathlib.Core.Path.{sym, ap, ◌∙◌}
use Rattle.bodies.specs.Ranges.{is_range}
use Rattle.std.proofs.lemmas.Result.{err_from_is_err_and}
use Rattle.bodywise.proofs.Steps.{entry_first, entry-passed, range_none, range-held, range-answer}
use Rattle.bodywise.proofs.check_block.Goals as goal

pub returns-in_err-check_entry : goal.returns-in_err-check_entry
returns-in_err-check_entry c =
    let args = c.args in
    let given = err_from_is_err_and c.from_residual.result c.from_residual.ensures.1 in
    rw (given.1, given.2) (entry_first args.front.now args.i _ c.in_err-check_entry.ensures)

pub returns-then-edition-ne2 : goal.returns-then-edition-ne2
returns-then-edition-ne2 c =
    let args = c.args in
    let right = entry-passed args.front.now args.i c.in_ok-check_entry.ensures in
    sym (range-answer args.front.now args.i args.block.now right
    (range_none args.front.now args.i args.block.now (λ e. c.if-edition-ne2.true (c.edition.ensures ∙ e))))

pub returns-then-is_range : goal.returns-then-is_range
returns-then-is_range c =
    let args = c.args in
    let right = entry-passed args.front.now args.i c.in_ok-check_entry.ensures in
    sym (range-answer args.front.now args.i args.block.now right
    (range-held args.front.now args.i args.block.now (sym c.edition.ensures ∙ c.if-edition-ne2.false)
    ∙ ap (λ r. is_range r args.block.now) (sym c.range_or.ensures) ∙ sym c.is_range.ensures ∙ c.if-is_range.true))

pub returns : goal.returns
returns c =
    let args = c.args in
    let right = entry-passed args.front.now args.i c.in_ok-check_entry.ensures in
    sym (range-answer args.front.now args.i args.block.now right
    (range-held args.front.now args.i args.block.now (sym c.edition.ensures ∙ c.if-edition-ne2.false)
    ∙ ap (λ r. is_range r args.block.now) (sym c.range_or.ensures) ∙ sym c.is_range.ensures ∙ c.if-is_range.false))
