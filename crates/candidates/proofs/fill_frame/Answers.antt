-- `candidates::fill_frame` meets its contract: the part that is lent is packed, and the rest stays.
-- Assumes nothing.
use Rattle.std.proofs.Common.{◌*◌, ◌++◌, drop, sym, ap, ◌∙◌, arith, length-take-le}
use Rattle.candidates.proofs.Filling.{filled-frame}
use Rattle.candidates.proofs.fill_frame.Goals as goal

pub slice_bounds-for_pack-end-2 : goal.slice_bounds-for_pack-end-2
slice_bounds-for_pack-end-2 c = sym (length-take-le _ _ (omega arith))

pub returns : goal.returns
returns c =
    let args = c.args in
    ap (λ x. x ++ drop (16 * args.width) args.words.now) c.for_pack.ensures.packed_after
    ∙ filled-frame args.width args.values.now args.words.now args.reference (omega arith) (omega arith) (omega arith)
