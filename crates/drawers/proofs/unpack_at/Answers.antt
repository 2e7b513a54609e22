-- `drawers::unpack_at` meets its contract: the part that is lent comes back as the call leaves it.
-- Assumes nothing.
use Rattle.std.proofs.Common.{◌*◌, sym, ap, ap₂, ◌∙◌, arith}
use native.Mathlib.Nat.{add-sub_cancel_left}
use Rattle.places.proofs.Elements.{numbers-length, numbers-part, numbers-put}
use Rattle.packing.specs.Calls.{unpack_leaves}
use Rattle.drawers.proofs.Blocks.{unpack-part}
use Rattle.drawers.proofs.unpack_at.Goals as goal

pub returns : goal.returns
returns g c =
    let m = g.met.E.Element in
    let one = m.one_by_one in
    let args = c.args in
    let words = ap (λ n. n * args.width) (sym m.side_by_side) in
    numbers-put one _ _ args.values.now _
    ∙ unpack-part g.row.T args.width c.requires.width_le_t.0 (g.E.Element.numbers args.packed.now) (g.E.Element.numbers args.values.now) _ args.b _ _ _ _ (ap (λ n. args.b * n) words)
    (omega (arith, c.requires.width_in_bounds, numbers-length one args.packed.now)) (omega (arith, c.requires.b_in_bounds, numbers-length one args.values.now))
    (add-sub_cancel_left (args.b * (g.row.LANES * args.width)) (g.row.LANES * args.width) ∙ words) (add-sub_cancel_left (args.b * 1024) 1024)
    (c.unpack.ensures.values_after ∙ ap₂ (unpack_leaves g.row.T args.width) (numbers-part one _ _ args.values.now) (numbers-part one _ _ args.packed.now))
