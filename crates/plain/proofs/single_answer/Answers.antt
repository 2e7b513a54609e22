-- `plain::single_answer` meets its contract: each refusal by its test.
-- Assumes nothing.
use Rattle.std.proofs.Common.{◌*◌, sym, ap, ◌∙◌}
use Rattle.places.proofs.Elements.{numbers-length}
use Rattle.plain.proofs.Answers.{single_bad_width, single_bad_packed, single_bad_index, single-good}
use Rattle.plain.proofs.single_answer.Goals as goal

pub returns-then-width : goal.returns-then-width
returns-then-width g c = sym (single_bad_width _ _ _ _ c.if-width.true)

pub returns-then-packed-width : goal.returns-then-packed-width
returns-then-packed-width g c =
    let long = numbers-length g.met.E.Element.one_by_one in
    sym (single_bad_packed _ _ _ _ c.if-width.false
    (λ e. c.if-packed-width.true (sym (long c.args.packed.now) ∙ e ∙ ap (λ n. n * c.args.width) g.met.E.Element.side_by_side)))

pub returns-then-index-ge1024 : goal.returns-then-index-ge1024
returns-then-index-ge1024 g c =
    let whole = numbers-length g.met.E.Element.one_by_one c.args.packed.now ∙ c.if-packed-width.false ∙ ap (λ n. n * c.args.width) (sym g.met.E.Element.side_by_side) in
    sym (single_bad_index _ _ _ _ c.if-width.false whole c.if-index-ge1024.true)

pub returns : goal.returns
returns g c =
    let whole = numbers-length g.met.E.Element.one_by_one c.args.packed.now ∙ c.if-packed-width.false ∙ ap (λ n. n * c.args.width) (sym g.met.E.Element.side_by_side) in
    sym (single-good _ _ _ _ c.if-width.false whole c.if-index-ge1024.false)
