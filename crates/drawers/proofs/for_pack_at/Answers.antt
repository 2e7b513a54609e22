-- `drawers::for_pack_at` meets its contract: the part that is lent comes back as the call leaves it.
-- Assumes nothing.
use Rattle.std.proofs.Common.{◌*◌, refl, sym, ap, ap₂, ◌∙◌, arith}
use native.Mathlib.Nat.{add-sub_cancel_left}
use Rattle.places.proofs.Elements.{numbers-length, numbers-part, numbers-put}
use Rattle.lists.specs.Parts.{cut}
use Rattle.lists.specs.Tab.{over}
use Rattle.deltas.specs.Calls.{for_pack_leaves}
use Rattle.deltas.specs.Deltas.{for_pack_of}
use Rattle.drawers.proofs.Blocks.{for_pack-part}
use Rattle.drawers.proofs.for_pack_at.Goals as goal

pub returns : goal.returns
returns g c =
    let m = g.met.E.Element in
    let one = m.one_by_one in
    let args = c.args in
    let words = ap (λ n. n * args.width) (sym m.side_by_side) in
    let reference = g.E.Element.number args.reference in
    numbers-put one _ _ args.packed.now _
    ∙ for_pack-part g.row.T args.width c.requires.width_le_t.0 (g.E.Element.numbers args.packed.now) (g.E.Element.numbers args.values.now) _ args.b _ _ _ _ reference refl
    (omega (arith, c.requires.b_in_bounds, numbers-length one args.values.now)) (omega (arith, c.requires.width_in_bounds, ap (λ n. args.b * n) words, numbers-length one args.packed.now))
    (add-sub_cancel_left (args.b * 1024) 1024) (add-sub_cancel_left (args.b * (g.row.LANES * args.width)) (g.row.LANES * args.width) ∙ words)
    (c.for_pack.ensures.packed_after ∙ ap₂ (λ x y. for_pack_leaves g.row.T args.width x y reference) (numbers-part one _ _ args.values.now) (numbers-part one _ _ args.packed.now))
    ∙ ap (λ n. over (args.b * n) (for_pack_of g.row.T args.width (cut 1024 (g.E.Element.numbers args.values.now) args.b) reference) (g.E.Element.numbers args.packed.now)) words
