-- `drawers::drawer_answer` meets its contract: each refusal by its test.
-- Assumes nothing.
use Rattle.std.proofs.Common.{◌*◌, sym, ap, ◌∙◌}
use Rattle.places.proofs.Elements.{numbers-length}
use Rattle.drawers.proofs.Answers.{bad_width, too_many, bad_blocks, bad_packed, good-drawer}
use Rattle.drawers.proofs.drawer_answer.Goals as goal

pub returns-then-width : goal.returns-then-width
returns-then-width g c = sym (bad_width g.row.T _ _ _ _ c.if-width.true)

pub returns-then-blocks-gt256 : goal.returns-then-blocks-gt256
returns-then-blocks-gt256 g c = sym (too_many g.row.T _ _ _ _ c.if-width.false c.if-blocks-gt256.true)

pub returns-then-values-blocks : goal.returns-then-values-blocks
returns-then-values-blocks g c =
    let long = numbers-length g.met.E.Element.one_by_one in
    sym (bad_blocks g.row.T _ _ _ _ c.if-width.false c.if-blocks-gt256.false (λ e. c.if-values-blocks.true (sym (long _) ∙ e)))

pub returns-then-packed-blocks : goal.returns-then-packed-blocks
returns-then-packed-blocks g c =
    let m = g.met.E.Element in
    let long = numbers-length m.one_by_one in
    sym (bad_packed g.row.T _ _ _ _ c.if-width.false c.if-blocks-gt256.false (long _ ∙ c.if-values-blocks.false)
    (λ e. c.if-packed-blocks.true (sym (long _) ∙ e ∙ ap (λ n. c.args.blocks * (n * c.args.width)) m.side_by_side)))

pub returns : goal.returns
returns g c =
    let m = g.met.E.Element in
    let long = numbers-length m.one_by_one in
    sym (good-drawer g.row.T _ _ _ _ c.if-width.false c.if-blocks-gt256.false (long _ ∙ c.if-values-blocks.false)
    (long _ ∙ c.if-packed-blocks.false ∙ ap (λ n. c.args.blocks * (n * c.args.width)) (sym m.side_by_side)))
