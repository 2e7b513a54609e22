-- `candidates::lay_block` meets its contract: the block is measured, and laid down by what was measured.
-- Assumes nothing.
use Rattle.std.proofs.lemmas.Result.{err_from_is_err_and}
use Rattle.std.proofs.Common.{Ok, ◌≡◌, replicate, sym, refl, ap, ◌∙◌, arith}
use Rattle.lists.specs.Numbers.{Elements}
use Rattle.places.specs.Sizes.{t64}
use Rattle.contents.specs.Answers.{file_answer}
use Rattle.bodies.specs.Ranges.{true_range}
use Rattle.candidates.specs.Calls.{lay_tests, lay_leaves, by_tests, by_leaves}
use Rattle.candidates.specs.Candidates.{chosen, differences}
use Rattle.candidates.specs.Widths.{width_of}
use Rattle.candidates.proofs.Calls.{bad_values, measured_there, true-answer, true-leaves, laid_refused, laid_done, laid_left}
use Rattle.candidates.proofs.lay_block.Goals as goal
use Rattle.candidates.proofs.lay_block.Goals.{After-lay_by, After-measure-m}

pub returns-then-values-ne1024 : goal.returns-then-values-ne1024
returns-then-values-ne1024 c =
    let args = c.args in
    let both = bad_values args.values.now args.output.now c.if-values-ne1024.true in record { value = both.0; output_after = both.1 }

elements : (c : After-measure-m) → Elements t64 c.args.values.now
elements c i = omega (arith, c.type_inv.values i)

is : (c : After-measure-m) → c.measure-m.result ≡ record { entry = (chosen c.args.values.now).entry; range = true_range c.args.values.now; steps = width_of (differences c.args.values.now) }
is c = c.measure-m.ensures ∙ measured_there c.args.values.now (omega arith)

answer-is : (c : After-lay_by) → c.lay_by.result ≡ file_answer (lay_tests c.args.values.now c.args.output.now)
answer-is c =
    let values = c.args.values.now in
    let output = c.args.output.now in
    c.lay_by.ensures.value
    ∙ ap (λ k. file_answer (by_tests k.range k.steps values (replicate 1024 0) (replicate 1024 0) (replicate 1040 0) output)) (let it : c.measure-m.result ≡ record { entry = (chosen c.args.values.now).entry; range = true_range c.args.values.now; steps = width_of (differences c.args.values.now) } = c.measure-m.ensures ∙ measured_there c.args.values.now (omega arith) in it)
    ∙ true-answer values (omega arith) (let it : Elements t64 c.args.values.now = λ i. omega (arith, c.type_inv.values i) in it) (replicate 1024 0) (replicate 1024 0) (replicate 1040 0) output refl refl refl

left_is : (c : After-lay_by) → c.lay_by.new.output ≡ lay_leaves c.args.values.now c.args.output.now
left_is c =
    let values = c.args.values.now in
    let output = c.args.output.now in
    c.lay_by.ensures.output_after
    ∙ ap (λ k. by_leaves c.lay_by.result k.range k.steps values output) (let it : c.measure-m.result ≡ record { entry = (chosen c.args.values.now).entry; range = true_range c.args.values.now; steps = width_of (differences c.args.values.now) } = c.measure-m.ensures ∙ measured_there c.args.values.now (omega arith) in it)
    ∙ true-leaves values (omega arith) (let it : Elements t64 c.args.values.now = λ i. omega (arith, c.type_inv.values i) in it) c.lay_by.result output
    ∙ laid_left values (omega arith) (let it : Elements t64 c.args.values.now = λ i. omega (arith, c.type_inv.values i) in it) c.lay_by.result output (answer-is c)

pub returns-in_err-lay_by : goal.returns-in_err-lay_by
returns-in_err-lay_by c =
    let args = c.args in
    let by = (goal.at.returns-in_err-lay_by c).After-lay_by in
    let given = err_from_is_err_and c.from_residual.result c.from_residual.ensures.1 in
    rw (given.1, given.2) record {
      value = laid_refused args.values.now (omega arith) (elements (goal.at.returns-in_err-lay_by c).After-measure-m) _ args.output.now (sym c.in_err-lay_by.was ∙ answer-is by);
      output_after = left_is by;
    }

pub returns : goal.returns
returns c =
    let args = c.args in
    let by = (goal.at.returns c).After-lay_by in record {
      value = ap (λ k. Ok (record { entry = k.entry; range = k.range })) (is (goal.at.returns c).After-measure-m)
          ∙ laid_done args.values.now (omega arith) (elements (goal.at.returns c).After-measure-m) args.output.now (sym c.in_ok-lay_by.was ∙ answer-is by);
      output_after = left_is by;
    }
