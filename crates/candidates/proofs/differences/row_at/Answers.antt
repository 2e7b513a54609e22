-- `candidates::differences::row_at` meets its contract: the part that is lent has LANES values.
-- Assumes nothing.
use Rattle.std.proofs.Common.{take, drop, ap, ◌∙◌}
use native.Mathlib.Nat.{add-sub_cancel_left}
use Rattle.places.specs.Sizes.{t64, lanes}
use Rattle.rows.specs.Rows.{load_of}
use Rattle.rows.proofs.Blocks.{load_part}
use Rattle.candidates.proofs.differences.row_at.Goals as goal

pub returns : goal.returns
returns c =
    let args = c.args in
    c.load.ensures
    ∙ ap (λ n. load_of t64 (take n (drop args.a args.block.now))) (add-sub_cancel_left args.a (lanes t64))
    ∙ load_part t64 args.block.now args.a c.requires
