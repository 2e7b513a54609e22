-- `packing::pack` meets its contract: each refusal by its test, and each of the three widths' rules is the one
-- sum.
-- Assumes nothing.
use Rattle.std.proofs.Common.{◌≡◌, ◌*◌, refl, sym, ap, ◌∙◌, arith}
use Rattle.places.specs.Sizes.{lanes}
use Rattle.places.proofs.Places.{size-most}
use Rattle.places.proofs.Answers.{done}
use Rattle.places.proofs.Elements.{numbers-length}
use Rattle.packing.specs.Calls.{pack_leaves}
use Rattle.packing.specs.Packed.{pack_of}
use Rattle.packing.proofs.Answers.{bad_width, tested_block, tested_packed, tested_good}
use Rattle.packing.proofs.Rounds.{width-zero_only}
use Rattle.packing.proofs.pack.Goals as goal
use Rattle.packing.proofs.pack.Goals.{in_default-via-in-1-to-63+else-width-2, in_default-via-else-width-lt64}

pub returns-then-width : goal.returns-then-width
unfolding pack_leaves
returns-then-width g c = rw (bad_width g.row.T _ _ _ c.if-width.true) record { value = refl; packed_after = refl }

pub returns-then-values-ne1024 : goal.returns-then-values-ne1024
unfolding pack_leaves
returns-then-values-ne1024 g c =
    let m = g.met.E.Element in
    rw (tested_block g.E.Element.numbers (numbers-length m.one_by_one) m.side_by_side c.args.values.now c.args.packed.now c.if-width.false c.if-values-ne1024.true)
    record { value = refl; packed_after = refl }

pub returns-then-packed-width : goal.returns-then-packed-width
unfolding pack_leaves
returns-then-packed-width g c =
    let m = g.met.E.Element in
    rw (tested_packed g.E.Element.numbers (numbers-length m.one_by_one) m.side_by_side c.args.values.now c.args.packed.now c.if-width.false c.if-values-ne1024.false c.if-packed-width.true)
    record { value = refl; packed_after = refl }

pub returns-in-0 : goal.returns-in-0
unfolding pack_leaves
returns-in-0 g c =
    let m = g.met.E.Element in
    let long = numbers-length m.one_by_one in
    let zero-width : c.args.width ≡ 0 = c.in-0.is in
    let good = tested_good g.E.Element.numbers long m.side_by_side c.args.values.now c.args.packed.now c.if-width.false c.if-values-ne1024.false c.if-packed-width.false in
    let both = done _ _ _ _ good (rw zero-width (width-zero_only g.row.T (g.E.Element.numbers c.args.values.now) _ (long c.args.packed.now ∙ c.if-packed-width.false ∙ ap (λ n. n * c.args.width) (sym m.side_by_side) ∙ ap (λ w. lanes g.row.T * w) zero-width))) in
    record { value = both.0; packed_after = both.1 }

pub returns-in-1-to-63 : goal.returns-in-1-to-63
unfolding pack_leaves
returns-in-1-to-63 g c =
    let m = g.met.E.Element in
    let good = tested_good g.E.Element.numbers (numbers-length m.one_by_one) m.side_by_side c.args.values.now c.args.packed.now c.if-width.false c.if-values-ne1024.false c.if-packed-width.false in
    let both = done _ _ _ _ good c.pack_split.ensures in record { value = both.0; packed_after = both.1 }

pub returns-in_default : goal.returns-in_default
unfolding pack_leaves
returns-in_default g c =
    let m = g.met.E.Element in
    let full : c.args.width ≡ g.row.T =
    elim c.in_default.branch [
      | in_default-via-in-1-to-63+else-width-2 w ↦ omega (arith, c.if-width.false, w.if-width-2.false)
      | in_default-via-else-width-lt64 w ↦ omega (arith, c.if-width.false, size-most m.size)
    ] in
    let good = tested_good g.E.Element.numbers (numbers-length m.one_by_one) m.side_by_side c.args.values.now c.args.packed.now c.if-width.false c.if-values-ne1024.false c.if-packed-width.false in
    let both = done _ _ _ _ good (c.pack_copy.ensures ∙ ap (λ w. pack_of g.row.T w (g.E.Element.numbers c.args.values.now)) (sym full)) in
    record { value = both.0; packed_after = both.1 }
