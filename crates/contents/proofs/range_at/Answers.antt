-- `contents::range_at` meets its contract: field by field. The sixteen bytes are read through a part of that length, so
-- that no read has a test.
-- Assumes nothing.
use mathlib.Core.Path.{◌∙◌, ap}
use Prim.Native.Nat.{◌+◌, ◌-◌}
use native.Mathlib.Nat.{add-zero}
use native.Mathlib.Omega.{arith}
use Rattle.little.specs.Little.{little}
use Rattle.contents.proofs.Parts.{part-number}
use Rattle.contents.proofs.range_at.Goals as goal

pub returns : goal.returns
returns c =
    let args = c.args in
    let l = args.front.now in
    let at = args.at in
    let n = at + 16 - at in
    λ i. record {
      smallest = (c.word.ensures ∙ part-number l at n 0 8 (omega arith) (omega arith) ∙ ap (λ p. little l p 8) (add-zero at)) i;
      largest = (c.word-2.ensures ∙ part-number l at n 8 8 (omega arith) (omega arith)) i;
    }
