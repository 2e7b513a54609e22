-- `deltas::row_at` meets its contract: the part that is lent has LANES values.
-- Assumes nothing.
use Rattle.std.proofs.Common.{◌≡◌, ◌+◌, ◌-◌, sym, ap, ◌∙◌, arith, take, drop}
use native.Mathlib.Nat.{add-sub_cancel_left}
use Rattle.places.specs.Sizes.{lanes}
use Rattle.places.proofs.Elements.{numbers-length, numbers-part}
use Rattle.rows.specs.Rows.{load_of}
use Rattle.rows.proofs.Blocks.{load_part}
use Rattle.deltas.proofs.row_at.Goals as goal

pub returns : goal.returns
returns g c =
    let m = g.met.E.Element in
    let args = c.args in
    let block = g.E.Element.numbers args.block.now in
    let size : args.a + g.row.LANES - args.a ≡ lanes g.row.T = add-sub_cancel_left args.a g.row.LANES ∙ sym m.side_by_side in
    c.load.ensures
    ∙ ap (load_of g.row.T) (numbers-part m.one_by_one args.a _ args.block.now)
    ∙ ap (λ n. load_of g.row.T (take n (drop args.a block))) size
    ∙ load_part g.row.T block args.a (omega (arith, c.requires, numbers-length m.one_by_one args.block.now))
