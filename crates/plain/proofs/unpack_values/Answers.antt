-- `plain::unpack_values` meets its contract. The loop's invariant: the first p values stand in their places.
-- Assumes nothing.
use mathlib.Core.Path.{sym}
use Prim.Native.Nat.{zero-le}
use native.Mathlib.Nat.{zero-add}
use native.Mathlib.Omega.{arith}
use Rattle.places.proofs.Elements.{elements_none, elements_next, elements_all}
use Rattle.plain.specs.Plain.{plain_unpack}
use Rattle.plain.proofs.unpack_values.Goals as goal

pub loop-p-init : goal.loop-p-init
loop-p-init g c = elements_none g.met.E.Element.one_by_one _ zero-le

pub value_at-requires : goal.value_at-requires
value_at-requires g c =
    record { width_le_t = c.requires.width_le_t; packed_len = c.requires.packed_len; p_bound = omega arith }

pub loop-p-preserved : goal.loop-p-preserved
loop-p-preserved g c =
    elements_next g.met.E.Element.one_by_one c.loop-p.invariant _ _ (omega arith) (sym (zero-add _)) c.value_at.ensures

pub returns : goal.returns
unfolding plain_unpack
returns g c = elements_all g.met.E.Element.one_by_one c.loop-p.invariant 1024 (omega arith) c.requires.values_len
