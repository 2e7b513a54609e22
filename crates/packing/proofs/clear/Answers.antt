-- `packing::clear` meets its contract.
-- Assumes nothing.
use Rattle.std.proofs.Common.{sym, zero-le, zero-add, arith}
use Rattle.places.proofs.Elements.{elements_none, elements-length, elements_next, elements_all}
use Rattle.packing.proofs.clear.Goals as goal

pub loop-v-init : goal.loop-v-init
loop-v-init g c = elements_none g.met.E.Element.one_by_one _ zero-le

pub loop-v-preserved : goal.loop-v-preserved
loop-v-preserved g c =
    let one = g.met.E.Element.one_by_one in
    let before = c.loop-v.invariant in
    elements_next one before _ _ (omega (arith, elements-length one before)) (sym (zero-add _)) c.of.ensures

pub returns : goal.returns
returns g c = elements_all g.met.E.Element.one_by_one c.loop-v.invariant 1024 (omega arith) c.requires
