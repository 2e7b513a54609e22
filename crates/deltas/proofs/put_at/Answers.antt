-- `deltas::put_at` meets its contract: the part that is lent has LANES places, and comes back with the row.
-- Assumes nothing.
use Rattle.std.proofs.Common.{◌≡◌, ◌+◌, ◌-◌, length, sym, ap, ◌∙◌, arith, take, drop, rules}
use native.Mathlib.Nat.{add-sub_cancel_left}
use borrow.Rule.Slice.PartMut.{put_mid}
use Rattle.places.specs.Sizes.{lanes}
use Rattle.places.proofs.Elements.{numbers-length, numbers-part, numbers-put}
use Rattle.rows.specs.Rows.{store_of}
use Rattle.rows.proofs.Blocks.{put_part}
use Rattle.deltas.proofs.put_at.Goals as goal

pub returns : goal.returns
returns g c =
    let m = g.met.E.Element in
    let args = c.args in
    let block = g.E.Element.numbers args.block.now in
    let row = g.E.Element.numbers args.row in
    let n = args.a + g.row.LANES - args.a in
    let size : n ≡ lanes g.row.T = add-sub_cancel_left args.a g.row.LANES ∙ sym m.side_by_side in
    let own : length args.row ≡ g.row.LANES = search rules in
    let long : length row ≡ lanes g.row.T = numbers-length m.one_by_one args.row ∙ own ∙ sym m.side_by_side in
    numbers-put m.one_by_one args.a n args.block.now _
    ∙ ap (put_mid args.a n block) (c.store.ensures ∙ ap (λ l. store_of l row) (numbers-part m.one_by_one args.a n args.block.now))
    ∙ ap (λ k. put_mid args.a k block (store_of (take k (drop args.a block)) row)) size
    ∙ put_part block row args.a (lanes g.row.T) long (omega (arith, c.requires, numbers-length m.one_by_one args.block.now))
