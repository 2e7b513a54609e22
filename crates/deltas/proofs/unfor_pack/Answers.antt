-- `deltas::unfor_pack` meets its contract: each refusal by its test, and each of the three widths' rules is the one of
-- the definition.
-- Assumes nothing.
use Rattle.std.proofs.Common.{◌≡◌, [], ◌∷◌, get_or, refl, sym, ap, ◌∙◌, arith}
use Rattle.lists.specs.Tab.{tab}
use Rattle.places.specs.Places.{lane}
use Rattle.places.specs.declared.Answer.TheVariants.{Done}
use Rattle.places.specs.Takes.{answer_for}
use Rattle.places.proofs.Places.{size-most}
use Rattle.places.proofs.Answers.{done}
use Rattle.places.proofs.Elements.{numbers-length}
use Rattle.packing.proofs.Answers.{bad_width, tested_block, tested_packed, tested_good}
use Rattle.packing.specs.Calls.{pack_takes}
use Rattle.deltas.specs.Calls.{unfor_pack_leaves}
use Rattle.deltas.specs.Deltas.{unfor_pack_of}
use Rattle.deltas.proofs.Walks.{no-words_raised}
use Rattle.deltas.proofs.unfor_pack.Goals as goal
use Rattle.deltas.proofs.unfor_pack.Goals.{in_default-via-in-1-to-63+else-width-2, in_default-via-else-width-lt64}
use Rattle.deltas.proofs.unfor_pack.Goals.{After-are_elements}

pub returns-then-width : goal.returns-then-width
unfolding unfor_pack_leaves
returns-then-width g c = rw (bad_width g.row.T _ _ _ c.if-width.true) record { value = refl; values_after = refl }

pub returns-then-values-ne1024 : goal.returns-then-values-ne1024
unfolding unfor_pack_leaves
returns-then-values-ne1024 g c =
    let m = g.met.E.Element in
    rw (tested_block g.E.Element.numbers (numbers-length m.one_by_one) m.side_by_side c.args.values.now c.args.packed.now c.if-width.false c.if-values-ne1024.true)
    record { value = refl; values_after = refl }

pub returns-then-packed-width : goal.returns-then-packed-width
unfolding unfor_pack_leaves
returns-then-packed-width g c =
    let m = g.met.E.Element in
    rw (tested_packed g.E.Element.numbers (numbers-length m.one_by_one) m.side_by_side
    c.args.values.now c.args.packed.now c.if-width.false c.if-values-ne1024.false c.if-packed-width.true)
    record { value = refl; values_after = refl }

-- all tests pass
good : (g : _) (c : After-are_elements g)
    → answer_for (pack_takes g.row.T c.args.width (g.E.Element.numbers c.args.values.now) (g.E.Element.numbers c.args.packed.now)) ≡ Done
good g c =
    let m = g.met.E.Element in
    tested_good g.E.Element.numbers (numbers-length m.one_by_one) m.side_by_side c.args.values.now c.args.packed.now
    c.if-width.false c.if-values-ne1024.false c.if-packed-width.false

pub returns-in-0 : goal.returns-in-0
unfolding unfor_pack_leaves
returns-in-0 g c =
    let m = g.met.E.Element in
    let packed = g.E.Element.numbers c.args.packed.now in
    let reference = g.E.Element.number c.args.reference in
    let none : c.args.width ≡ 0 = c.in-0.is in
    let small = (rw (m.one_by_one (c.args.reference ∷ [])) at c.are_elements.ensures) 0 in
    let both = done _ _ _ _ (good g (goal.at.returns-in-0 g c).After-are_elements)
    (c.repeat.ensures
    ∙ ap (λ x. tab 1024 (λ p. get_or x (lane g.row.T p) 0)) c.splat.ensures
    ∙ no-words_raised m.size packed reference small
    ∙ ap (λ w. unfor_pack_of g.row.T w packed reference) (sym none)) in
    record { value = both.0; values_after = both.1 }

pub returns-in-1-to-63 : goal.returns-in-1-to-63
unfolding unfor_pack_leaves
returns-in-1-to-63 g c =
    let both = done _ _ _ _ (good g (goal.at.returns-in-1-to-63 g c).After-are_elements) c.unpack_raised.ensures in record { value = both.0; values_after = both.1 }

pub returns-in_default : goal.returns-in_default
unfolding unfor_pack_leaves
returns-in_default g c =
    let full : c.args.width ≡ g.row.T = elim c.in_default.branch [
      | in_default-via-in-1-to-63+else-width-2 w ↦ omega (arith, c.if-width.false, w.if-width-2.false)
      | in_default-via-else-width-lt64 w ↦ omega (arith, c.if-width.false, size-most g.met.E.Element.size)
    ] in
    let both = done _ _ _ _ (good g (goal.at.returns-in_default g c).After-are_elements)
    (c.copy_raised.ensures ∙ ap (λ w. unfor_pack_of g.row.T w (g.E.Element.numbers c.args.packed.now) (g.E.Element.number c.args.reference)) (sym full)) in
    record { value = both.0; values_after = both.1 }
