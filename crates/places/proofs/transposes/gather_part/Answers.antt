-- `places::transposes::gather_part` meets its contract. The loop's invariant: the first o runs of the part stand in their
-- places.
-- Assumes nothing.
use mathlib.Core.Path.{◌≡◌}
use native.Mathlib.Nat.{zero-mul}
use native.Mathlib.Omega.{arith}
use borrow.Author.Rules.{rules}
use Rattle.lists.proofs.Tabs.{written-length}
use Rattle.places.proofs.Elements.{numbers-length, elements_none, elements-length}
use Rattle.places.proofs.Walks.{Run, run, run_more, part_room}
use Rattle.places.proofs.transposes.gather_part.Goals as goal
use Rattle.places.proofs.transposes.gather_part.Goals.{After-order}

pub loop-o-init : goal.loop-o-init
loop-o-init g c =
    (search rules, rw zero-mul (elements_none g.met.E.Element.one_by_one _ (omega (arith, part_room _ _ c.requires.count_value _ c.requires.part_lt_parts))))

-- what the walk's arithmetic says of the run that a turn copies
here : (g : _) (c : After-order g)
    → Run c.args.parts c.args.count c.args.part c.loop-o.o c.order.result
here g c =
    run _ _ c.requires.count_value _ _ _ c.requires.part_lt_parts c.loop-o-test.true c.order.ensures

pub overflow_mul-order : goal.overflow_mul-order
overflow_mul-order g c = omega (arith, here g (goal.at.overflow_mul-order g c).After-order)

pub overflow_add-order : goal.overflow_add-order
overflow_add-order g c = omega (arith, here g (goal.at.overflow_add-order g c).After-order)

pub overflow_mul-parts : goal.overflow_mul-parts
overflow_mul-parts g c = omega (arith, here g (goal.at.overflow_mul-parts g c).After-order)

pub overflow_mul-part : goal.overflow_mul-part
overflow_mul-part g c = omega (arith, here g (goal.at.overflow_mul-part g c).After-order)

pub overflow_add-part : goal.overflow_add-part
overflow_add-part g c = omega (arith, here g (goal.at.overflow_add-part g c).After-order)

pub overflow_mul-part-in-loop-o : goal.overflow_mul-part-in-loop-o
overflow_mul-part-in-loop-o g c = omega (arith, here g (goal.at.overflow_mul-part-in-loop-o g c).After-order)

pub gather-requires : goal.gather-requires
gather-requires g c =
    let h = here g (goal.at.gather-requires g c).After-order in
    record { stride_in_bounds = rw c.requires.input_len h.inside; count_in_bounds = omega (arith, elements-length g.met.E.Element.one_by_one c.loop-o.invariant.1) }

pub loop-o-preserved : goal.loop-o-preserved
loop-o-preserved g c =
    let before = c.loop-o.invariant.1 in (
      omega arith,
      run_more _ _ c.requires.count_value (g.E.Element.numbers c.args.input.now) _ _ _ c.requires.part_lt_parts c.loop-o-test.true c.order.ensures
          before (record { room = omega (arith, here g (goal.at.loop-o-preserved g c).After-order, written-length before, numbers-length g.met.E.Element.one_by_one c.args.output.now); is = c.gather.ensures }),
    )

pub returns : goal.returns
returns g c =
    let e : c.loop-o.o ≡ 8 = omega arith in
    rw e at c.loop-o.invariant.1.is
