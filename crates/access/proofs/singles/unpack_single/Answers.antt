-- `access::singles::unpack_single` meets its contract: each refusal by its test, and the value is the one at the place.
-- Assumes nothing.
use Rattle.std.proofs.Common.{◌*◌, sym, ap, ◌∙◌}
use Rattle.places.proofs.Elements.{numbers-length}
use Rattle.access.specs.declared.Single.TheVariants.{Value, Refused}
use Rattle.access.proofs.Answers.{single_bad_width, single_bad_packed, single-good}
use Rattle.access.proofs.singles.unpack_single.Goals as goal

pub returns-then-width : goal.returns-then-width
returns-then-width g c = sym (single_bad_width _ _ g.row.T _ _ _ c.if-width.true)

pub returns-then-packed-width : goal.returns-then-packed-width
returns-then-packed-width g c =
    let m = g.met.E.Element in
    let long = numbers-length m.one_by_one c.args.packed.now in
    sym (single_bad_packed _ _ g.row.T _ _ _ c.if-width.false (λ e. c.if-packed-width.true (sym long ∙ e ∙ ap (λ n. n * c.args.width) m.side_by_side)))

pub returns : goal.returns
returns g c =
    let m = g.met.E.Element in
    let long = numbers-length m.one_by_one c.args.packed.now in
    c.look_up.ensures
    ∙ single-good Value Refused g.row.T c.args.width _ _ c.if-width.false (long ∙ c.if-packed-width.false ∙ ap (λ n. n * c.args.width) (sym m.side_by_side))
