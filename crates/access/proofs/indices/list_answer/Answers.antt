-- `access::indices::list_answer` meets its contract: each refusal by its test.
-- Assumes nothing.
use Rattle.std.proofs.Common.{◌≡◌, ◌*◌, ◌<◌, length, sym, ap, subst, ◌∙◌, arith}
use Rattle.lists.specs.Search.{first_beyond}
use Rattle.lists.proofs.Search.{first-beyond_le}
use Rattle.places.specs.declared.Answer.TheVariants.{Index}
use Rattle.places.specs.Sizes.{lanes}
use Rattle.places.proofs.Elements.{numbers-length}
use Rattle.access.proofs.Answers.{list_bad_width, list_bad_packed, list_bad_lists, list_bad_index, list-good}
use Rattle.access.proofs.indices.list_answer.Goals as goal
use Rattle.access.proofs.indices.list_answer.Goals.{Else-packed-width, Else-output-indices}

-- where the packed length fits, that of the numbers does, and the same of the output's
whole : (g : _) (c : Else-packed-width g) → length (g.E.Element.numbers c.args.packed.now) ≡ lanes g.row.T * c.args.width
whole g c =
    let m = g.met.E.Element in
    numbers-length m.one_by_one c.args.packed.now ∙ c.if-packed-width.false ∙ ap (λ n. n * c.args.width) (sym m.side_by_side)

room : (g : _) (c : Else-output-indices g) → length (g.E.Element.numbers c.args.output.now) ≡ length c.args.indices.now
room g c = numbers-length g.met.E.Element.one_by_one c.args.output.now ∙ c.if-output-indices.false

pub returns-then-width : goal.returns-then-width
returns-then-width g c = sym (list_bad_width g.row.T _ _ _ _ c.if-width.true)

pub returns-then-packed-width : goal.returns-then-packed-width
returns-then-packed-width g c =
    let m = g.met.E.Element in
    let long = numbers-length m.one_by_one c.args.packed.now in
    sym (list_bad_packed g.row.T _ _ _ _ c.if-width.false (λ e. c.if-packed-width.true (sym long ∙ e ∙ ap (λ n. n * c.args.width) m.side_by_side)))

pub returns-then-output-indices : goal.returns-then-output-indices
returns-then-output-indices g c =
    let long = numbers-length g.met.E.Element.one_by_one c.args.output.now in
    sym (list_bad_lists g.row.T _ _ _ _ c.if-width.false (whole g (goal.at.returns-then-output-indices g c).Else-packed-width) (λ e. c.if-output-indices.true (sym long ∙ e)))

pub returns-then-place-indices : goal.returns-then-place-indices
returns-then-place-indices g c =
    let indices = c.args.indices.now in
    let bad : first_beyond 1024 indices < length indices = subst (λ n. n < length indices) c.first_beyond-place.ensures c.if-place-indices.true in
    let at = goal.at.returns-then-place-indices g c in
    ap Index c.first_beyond-place.ensures
    ∙ sym (list_bad_index g.row.T c.args.width _ indices _ c.if-width.false (whole g at.Else-packed-width) (room g at.Else-output-indices) bad)

pub returns : goal.returns
returns g c =
    let indices = c.args.indices.now in
    let looked : first_beyond 1024 indices ≡ length indices = omega (arith, c.first_beyond-place.ensures, first-beyond_le 1024 indices, c.if-place-indices.false) in
    let at = goal.at.returns g c in
    sym (list-good g.row.T c.args.width _ indices _ c.if-width.false (whole g at.Else-packed-width) (room g at.Else-output-indices) looked)
