-- `runs::look_up` meets its contract. The loops' invariants: the first places of the output hold their values.
-- Assumes nothing.
use mathlib.Core.Path.{◌≡◌, refl, sym}
use Prim.Native.Nat.{◌+◌, ◌*◌, ◌<◌, zero-le}
use native.Mathlib.Nat.{zero-add}
use native.Mathlib.Omega.{arith}
use lib.ListN.{length, get_or}
use Rattle.lists.proofs.Tabs.{written-run}
use Rattle.lists.proofs.Highs.{highest_bound}
use Rattle.places.proofs.Elements.{numbers-at, elements_none, elements-length, elements_next, elements_all}
use Rattle.runs.specs.Runs.{decode_of}
use Rattle.runs.proofs.look_up.Goals as goal
use Rattle.runs.proofs.look_up.Goals.{In-loop-i}

pub loop-o-init : goal.loop-o-init
loop-o-init g c = elements_none g.met.E.Element.one_by_one _ zero-le

pub loop-i-init : goal.loop-i-init
loop-i-init g c =
    elements_none g.met.E.Element.one_by_one _ (omega (arith, elements-length g.met.E.Element.one_by_one c.loop-o.invariant))

-- the index that a turn reads is below the dictionary's length
within : (g : _) (c : In-loop-i g)
    → get_or c.args.indices.now (c.loop-o.o * 8 + c.loop-i.i) 0
    < length c.args.dictionary.now
within g c =
    omega (
      arith,
      highest_bound c.args.indices.now (c.loop-o.o * 8 + c.loop-i.i)
          (omega arith),
    )

pub offset_bounds-dictionary-index : goal.offset_bounds-dictionary-index
offset_bounds-dictionary-index g c = omega (arith, within g (goal.at.offset_bounds-dictionary-index g c).In-loop-i)

pub bounds-dictionary-index : goal.bounds-dictionary-index
bounds-dictionary-index g c = within g (goal.at.bounds-dictionary-index g c).In-loop-i

pub loop-i-preserved : goal.loop-i-preserved
loop-i-preserved g c =
    elements_next g.met.E.Element.one_by_one c.loop-i.invariant _ _ (omega (arith, elements-length g.met.E.Element.one_by_one c.loop-o.invariant)) refl
    (numbers-at g.met.E.Element.one_by_one _ _ c.index-dictionary-index.is (within g (goal.at.loop-i-preserved g c).In-loop-i))

pub loop-o-preserved : goal.loop-o-preserved
loop-o-preserved g c =
    let o = c.loop-o.o in
    let next : o * 8 + c.loop-i.i ≡ (o + 1) * 8 = omega arith in
    rw next at (written-run c.loop-o.invariant (o * 8) (sym (zero-add (o * 8))) c.loop-i.invariant)

pub returns : goal.returns
unfolding decode_of
returns g c = elements_all g.met.E.Element.one_by_one c.loop-o.invariant 1024 (omega arith) (omega arith)
