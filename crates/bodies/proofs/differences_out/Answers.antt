-- `bodies::differences_out` meets its contract: the base words stand in front of the packed differences.
-- Assumes nothing.
use mathlib.Core.Path.{◌≡◌, ap₂, ◌∙◌}
use Prim.Native.Nat.{◌-◌}
use native.Mathlib.Omega.{arith}
use lib.ListN.{length, take, drop, length-drop}
use lib.Seq.{take_all}
use Rattle.places.specs.Sizes.{t64}
use Rattle.deltas.specs.Deltas.{undelta_pack_of}
use Rattle.bodies.specs.Bodies.{packed_from}
use Rattle.bodies.proofs.differences_out.Goals as goal

pub returns : goal.returns
returns c =
    let width = c.args.width in
    let body = c.args.body.now in
    let rest : take (length body - 128) (drop 128 body) ≡ drop 128 body = take_all (length body - 128) (drop 128 body) (omega (arith, length-drop 128 body)) in
    c.summed_out.ensures
    ∙ ap₂ (λ part base. undelta_pack_of t64 width (packed_from part 0 width) base) rest c.row_of-base.ensures
