-- `contents::entry_at` meets its contract: field by field, read through a part as in `range_at`.
-- Assumes nothing.
use mathlib.Core.Path.{◌∙◌, ap}
use Prim.Native.Nat.{◌+◌, ◌-◌}
use native.Mathlib.Nat.{add-zero}
use native.Mathlib.Omega.{arith}
use lib.ListN.{get_or}
use Rattle.contents.proofs.Parts.{part-byte, part-number}
use Rattle.contents.proofs.entry_at.Goals as goal

pub returns : goal.returns
returns c =
    let args = c.args in
    let l = args.front.now in
    let at = args.at in
    let n = at + 16 - at in
    λ i. record {
      kind = (part-byte l at n 0 (omega arith) ∙ ap (λ p. get_or l p 0) (add-zero at)) i;
      width = part-byte l at n 1 (omega arith) i;
      zero = (c.pair.ensures ∙ part-number l at n 2 2 (omega arith) (omega arith)) i;
      length = (c.quad.ensures ∙ part-number l at n 4 4 (omega arith) (omega arith)) i;
      reference = (c.word.ensures ∙ part-number l at n 8 8 (omega arith) (omega arith)) i;
    }
