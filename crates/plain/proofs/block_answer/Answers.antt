-- `plain::block_answer` meets its contract: each refusal by its test.
-- Assumes nothing.
use Rattle.std.proofs.Common.{◌*◌, sym, ap, ◌∙◌}
use Rattle.places.proofs.Elements.{numbers-length}
use Rattle.plain.proofs.Answers.{bad_width, bad_block, bad_packed, good}
use Rattle.plain.proofs.block_answer.Goals as goal

pub returns-then-width : goal.returns-then-width
returns-then-width g c = sym (bad_width _ _ _ _ c.if-width.true)

pub returns-then-values-ne1024 : goal.returns-then-values-ne1024
returns-then-values-ne1024 g c =
    let long = numbers-length g.met.E.Element.one_by_one in
    sym (bad_block _ _ _ _ c.if-width.false (λ e. c.if-values-ne1024.true (sym (long c.args.values.now) ∙ e)))

pub returns-then-packed-words : goal.returns-then-packed-words
returns-then-packed-words g c =
    let long = numbers-length g.met.E.Element.one_by_one in
    let side = g.met.E.Element.side_by_side in
    sym (bad_packed _ _ _ _ c.if-width.false (long c.args.values.now ∙ c.if-values-ne1024.false)
    (λ e. c.if-packed-words.true (sym (long c.args.packed.now) ∙ e ∙ ap (λ n. n * c.args.width) side)))

pub returns : goal.returns
returns g c =
    let long = numbers-length g.met.E.Element.one_by_one in
    let side = g.met.E.Element.side_by_side in
    sym (good _ _ _ _ c.if-width.false (long c.args.values.now ∙ c.if-values-ne1024.false)
    (long c.args.packed.now ∙ c.if-packed-words.false ∙ ap (λ n. n * c.args.width) (sym side)))
