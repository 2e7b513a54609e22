-- `listing::text::put_text` meets its contract: the bytes below i are laid.
-- Assumes nothing.
use mathlib.Core.Path.{refl, sym, ap, ◌∙◌}
use Prim.Native.Nat.{◌+◌}
use native.Mathlib.Omega.{arith}
use lib.ListN.{length, take}
use lib.Seq.{take_all, length-take-le}
use Rattle.lists.specs.Tab.{over}
use Rattle.lists.proofs.Overs.{over_nothing, length_over}
use Rattle.listing.proofs.Lines.{text-next}
use Rattle.listing.proofs.text.put_text.Goals as goal

pub loop-i-init : goal.loop-i-init
loop-i-init c = let args = c.args in (sym (over_nothing args.at args.out.now), omega arith)

pub loop-i-preserved : goal.loop-i-preserved
loop-i-preserved c =
    let args = c.args in
    let is = text-next args.text.now args.out.now c.loop-i.out args.at c.loop-i.i (omega arith) (omega arith) c.loop-i.invariant.0 in
    let long = length-take-le (c.loop-i.i + 1) args.text.now (omega arith) in
    (is, ap length is ∙ length_over args.at (take (c.loop-i.i + 1) args.text.now) args.out.now (omega (arith, long)))

pub returns : goal.returns
returns c =
    let args = c.args in
    let all = take_all c.loop-i.i args.text.now (omega arith) in
    record { value = refl; out_after = c.loop-i.invariant.0 ∙ ap (λ x. over args.at x args.out.now) all }
