-- `deltas::undelta_pack` meets its contract: each refusal by its test, and each of the three widths' rules is the one of
-- the definition.
-- Assumes nothing.
use Rattle.std.proofs.Common.{◌≡◌, get_or, refl, sym, ap, ◌∙◌, arith}
use Rattle.lists.specs.Tab.{tab}
use Rattle.places.specs.Places.{lane}
use Rattle.places.specs.declared.Answer.TheVariants.{Done}
use Rattle.places.specs.Takes.{answer_for}
use Rattle.places.proofs.Places.{size-most}
use Rattle.places.proofs.Answers.{done}
use Rattle.places.proofs.Elements.{numbers-length}
use Rattle.deltas.specs.Calls.{undelta_pack_takes, undelta_pack_leaves}
use Rattle.deltas.specs.Deltas.{undelta_pack_of}
use Rattle.deltas.proofs.Answers.{unpack_bad_width, tested-unpack_block, tested-unpack_packed, tested-unpack_base, tested-unpack}
use Rattle.deltas.proofs.Walks.{no-words-summed}
use Rattle.deltas.proofs.undelta_pack.Goals as goal
use Rattle.deltas.proofs.undelta_pack.Goals.{in_default-via-in-1-to-63+else-width-2, in_default-via-else-width-lt64}
use Rattle.deltas.proofs.undelta_pack.Goals.{After-are_elements}

pub returns-then-width : goal.returns-then-width
unfolding undelta_pack_leaves
returns-then-width g c = rw (unpack_bad_width g.row.T _ _ _ _ c.if-width.true) record { value = refl; values_after = refl }

pub returns-then-values-ne1024 : goal.returns-then-values-ne1024
unfolding undelta_pack_leaves
returns-then-values-ne1024 g c =
    let m = g.met.E.Element in
    rw (tested-unpack_block g.E.Element.numbers (numbers-length m.one_by_one) g.row.T m.side_by_side
    c.args.values.now c.args.packed.now c.args.base.now c.if-width.false c.if-values-ne1024.true)
    record { value = refl; values_after = refl }

pub returns-then-packed-width : goal.returns-then-packed-width
unfolding undelta_pack_leaves
returns-then-packed-width g c =
    let m = g.met.E.Element in
    rw (tested-unpack_packed g.E.Element.numbers (numbers-length m.one_by_one) g.row.T m.side_by_side
    c.args.values.now c.args.packed.now c.args.base.now c.if-width.false c.if-values-ne1024.false c.if-packed-width.true)
    record { value = refl; values_after = refl }

pub returns-then-base : goal.returns-then-base
unfolding undelta_pack_leaves
returns-then-base g c =
    let m = g.met.E.Element in
    rw (tested-unpack_base g.E.Element.numbers (numbers-length m.one_by_one) g.row.T m.side_by_side
    c.args.values.now c.args.packed.now c.args.base.now c.if-width.false c.if-values-ne1024.false c.if-packed-width.false c.if-base.true)
    record { value = refl; values_after = refl }

-- all tests pass
good : (g : _) (c : After-are_elements g)
    → answer_for (undelta_pack_takes g.row.T c.args.width (g.E.Element.numbers c.args.values.now) (g.E.Element.numbers c.args.packed.now)
    (g.E.Element.numbers c.args.base.now)) ≡ Done
good g c =
    let m = g.met.E.Element in
    let args = c.args in
    tested-unpack g.E.Element.numbers (numbers-length m.one_by_one) g.row.T m.side_by_side args.values.now args.packed.now args.base.now
    c.if-width.false c.if-values-ne1024.false c.if-packed-width.false c.if-base.false

pub returns-in-0 : goal.returns-in-0
unfolding undelta_pack_leaves
returns-in-0 g c =
    let m = g.met.E.Element in
    let packed = g.E.Element.numbers c.args.packed.now in
    let base = g.E.Element.numbers c.args.base.now in
    let none : c.args.width ≡ 0 = c.in-0.is in
    let long = numbers-length m.one_by_one c.args.base.now ∙ c.if-base.false ∙ sym m.side_by_side in
    let both = done _ _ _ _ (good g (goal.at.returns-in-0 g c).After-are_elements)
    (c.repeat.ensures
    ∙ ap (λ x. tab 1024 (λ p. get_or x (lane g.row.T p) 0)) c.load.ensures
    ∙ no-words-summed g.row.T packed base long c.are_elements.ensures
    ∙ ap (λ w. undelta_pack_of g.row.T w packed base) (sym none)) in
    record { value = both.0; values_after = both.1 }

pub returns-in-1-to-63 : goal.returns-in-1-to-63
unfolding undelta_pack_leaves
returns-in-1-to-63 g c =
    let both = done _ _ _ _ (good g (goal.at.returns-in-1-to-63 g c).After-are_elements) c.unpack_sums.ensures in record { value = both.0; values_after = both.1 }

pub returns-in_default : goal.returns-in_default
unfolding undelta_pack_leaves
returns-in_default g c =
    let full : c.args.width ≡ g.row.T = elim c.in_default.branch [
      | in_default-via-in-1-to-63+else-width-2 w ↦ omega (arith, c.if-width.false, w.if-width-2.false)
      | in_default-via-else-width-lt64 w ↦ omega (arith, c.if-width.false, size-most g.met.E.Element.size)
    ] in
    let both = done _ _ _ _ (good g (goal.at.returns-in_default g c).After-are_elements)
    (c.copy_sums.ensures ∙ ap (λ w. undelta_pack_of g.row.T w (g.E.Element.numbers c.args.packed.now) (g.E.Element.numbers c.args.base.now)) (sym full)) in
    record { value = both.0; values_after = both.1 }
