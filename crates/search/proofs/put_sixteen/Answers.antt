-- `search::put_sixteen` meets its contract: the part that is lent has sixteen places, and comes back with the rows.
-- Assumes nothing.
use Rattle.std.proofs.Common.{◌≡◌, ◌+◌, ◌-◌, length, take, drop, ap, ◌∙◌, rules}
use native.Mathlib.Nat.{add-sub_cancel_left}
use borrow.Rule.Slice.PartMut.{put_mid}
use Rattle.rows.specs.Rows.{store_of}
use Rattle.rows.proofs.Blocks.{put_part}
use Rattle.search.proofs.put_sixteen.Goals as goal

pub returns : goal.returns
returns c =
    let args = c.args in
    let long : length args.run ≡ 16 = search rules in
    ap (put_mid args.a (args.a + 16 - args.a) args.rows.now) c.store.ensures
    ∙ ap (λ n. put_mid args.a n args.rows.now (store_of (take n (drop args.a args.rows.now)) args.run)) (add-sub_cancel_left args.a (16))
    ∙ put_part args.rows.now args.run args.a (16) long c.requires
