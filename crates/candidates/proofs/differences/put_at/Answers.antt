-- `candidates::differences::put_at` meets its contract: the part that is lent has LANES places, and comes back with the row.
-- Assumes nothing.
use Rattle.std.proofs.Common.{◌≡◌, ◌+◌, ◌-◌, length, take, drop, ap, ◌∙◌, rules}
use native.Mathlib.Nat.{add-sub_cancel_left}
use borrow.Rule.Slice.PartMut.{put_mid}
use Rattle.places.specs.Sizes.{t64, lanes}
use Rattle.rows.specs.Rows.{store_of}
use Rattle.rows.proofs.Blocks.{put_part}
use Rattle.candidates.proofs.differences.put_at.Goals as goal

pub returns : goal.returns
returns c =
    let args = c.args in
    let long : length args.row ≡ lanes t64 = search rules in
    ap (put_mid args.a (args.a + lanes t64 - args.a) args.block.now) c.store.ensures
    ∙ ap (λ n. put_mid args.a n args.block.now (store_of (take n (drop args.a args.block.now)) args.row)) (add-sub_cancel_left args.a (lanes t64))
    ∙ put_part args.block.now args.row args.a (lanes t64) long c.requires
