-- `places::transposes::permute` meets its contract. The loop's invariant: the first parts of the output hold what the walk
-- finds for them.
-- Assumes nothing.
use mathlib.Core.Path.{◌≡◌, ◌∙◌}
use Prim.Native.Nat.{zero-le}
use native.Mathlib.Nat.{zero-mul}
use native.Mathlib.Omega.{arith}
use borrow.Author.Rules.{rules}
use Rattle.lists.proofs.Tabs.{written-length, written_all}
use Rattle.places.proofs.Elements.{numbers-length, elements_none, elements-length}
use Rattle.places.proofs.Walks.{all_runs, part_more, part_room}
use Rattle.places.proofs.transposes.permute.Goals as goal

pub loop-part-init : goal.loop-part-init
loop-part-init g c = (search rules, rw zero-mul (elements_none g.met.E.Element.one_by_one _ zero-le))

pub gather_part-requires : goal.gather_part-requires
gather_part-requires g c =
    record { count_value = c.requires.count_value; input_len = c.requires.input_len; output_len = elements-length g.met.E.Element.one_by_one c.loop-part.invariant.1 ∙ c.requires.output_len; part_lt_parts = c.loop-part-test.true }

pub loop-part-preserved : goal.loop-part-preserved
loop-part-preserved g c =
    let before = c.loop-part.invariant.1 in (
      omega arith,
      part_more _ _ c.requires.count_value _ before
          (record {
            room = omega (arith, part_room _ _ c.requires.count_value _ c.loop-part-test.true, written-length before, numbers-length g.met.E.Element.one_by_one c.args.output.now);
            is = c.gather_part.ensures;
          }),
    )

pub returns : goal.returns
returns g c =
    let e : c.loop-part.part ≡ c.args.parts = omega arith in
    written_all c.loop-part.invariant.1 1024 (rw e (all_runs _ _ c.requires.count_value)) (numbers-length g.met.E.Element.one_by_one c.args.output.now ∙ c.requires.output_len)
