-- `places::transposes::gather` meets its contract. The loop's invariant: the first k values of the run stand in their places.
-- Assumes nothing.
use mathlib.Core.Path.{◌≡◌, refl}
use Prim.Native.Nat.{◌+◌, ◌*◌, ◌<◌}
use native.Mathlib.Omega.{arith}
use lib.ListN.{length}
use borrow.Author.Rules.{rules}
use Rattle.lists.proofs.Tabs.{strided}
use Rattle.places.proofs.Elements.{numbers-at, elements_none, elements-length, elements_next}
use Rattle.places.proofs.transposes.gather.Goals as goal
use Rattle.places.proofs.transposes.gather.Goals.{In-loop-k}

pub loop-k-init : goal.loop-k-init
loop-k-init g c = (search rules, elements_none g.met.E.Element.one_by_one c.args.output.now (omega arith))

-- the value that a turn reads lies within the input
within : (g : _) (c : In-loop-k g)
    → c.args.from + c.loop-k.k * c.args.stride < length c.args.input.now
within g c = strided _ _ _ _ _ c.loop-k-test.true c.requires.stride_in_bounds

pub overflow_mul-output : goal.overflow_mul-output
overflow_mul-output g c = omega (arith, within g (goal.at.overflow_mul-output g c).In-loop-k)

pub overflow_add-output : goal.overflow_add-output
overflow_add-output g c = omega (arith, within g (goal.at.overflow_add-output g c).In-loop-k)

pub offset_bounds-input-from : goal.offset_bounds-input-from
offset_bounds-input-from g c = omega (arith, within g (goal.at.offset_bounds-input-from g c).In-loop-k)

pub bounds-input-from : goal.bounds-input-from
bounds-input-from g c = within g (goal.at.bounds-input-from g c).In-loop-k

pub bounds-output-to : goal.bounds-output-to
bounds-output-to g c = omega (arith, elements-length g.met.E.Element.one_by_one c.loop-k.invariant.1)

pub loop-k-preserved : goal.loop-k-preserved
loop-k-preserved g c =
    let one = g.met.E.Element.one_by_one in (
      omega arith,
      elements_next one c.loop-k.invariant.1 _ _ (omega arith) refl
          (numbers-at one _ _ c.index-input-from.is (within g (goal.at.loop-k-preserved g c).In-loop-k)),
    )

pub returns : goal.returns
returns g c =
    let e : c.loop-k.k ≡ c.args.count = omega arith in
    rw e at c.loop-k.invariant.1.is
