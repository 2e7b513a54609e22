-- `candidates::measure` meets its contract: the range and the width are the true ones, so the entry is the chosen one.
-- Assumes nothing.
use Rattle.std.proofs.Common.{◌≡◌, sym, ap, ◌∙◌, ap₂, arith}
use Rattle.lists.specs.Numbers.{Elements}
use Rattle.places.specs.Sizes.{t64}
use Rattle.bodies.specs.Ranges.{true_range}
use Rattle.candidates.specs.Candidates.{chosen, differences}
use Rattle.candidates.specs.Measures.{widths_by, entry_by}
use Rattle.candidates.specs.Widths.{width_of}
use Rattle.candidates.proofs.Calls.{widths_measured, measured_there, measured_missing}
use Rattle.candidates.proofs.Choice.{entry-chosen}
use Rattle.candidates.proofs.measure.Goals as goal

pub returns-then-values-ne1024 : goal.returns-then-values-ne1024
returns-then-values-ne1024 c =
    let values = c.args.values.now in
    (λ j. record { entry = c.no_entry.ensures j; range = c.any_range.ensures j; steps = 0 })
    ∙ sym (measured_missing values c.if-values-ne1024.true)

pub entry_by-requires : goal.entry_by-requires
unfolding widths_by
entry_by-requires c =
    (c.widths_by-m.ensures.plain_bound.0, (c.widths_by-m.ensures.plain_bound.1, omega (arith, ap (λ m. m.steps) c.widths_by-m.ensures.value, c.width_of-steps.ensures.1)))

pub returns : goal.returns
returns c =
    let values = c.args.values.now in
    let fits : Elements t64 values = λ i. omega (arith, c.type_inv.values i) in
    let range-is : c.range_of-range.result ≡ true_range values =
    λ j. record { smallest = c.range_of-range.ensures.0 j; largest = c.range_of-range.ensures.1 j } in
    let steps-is : c.width_of-steps.result ≡ width_of (differences values) = c.width_of-steps.ensures.0 ∙ c.step_bits.ensures in
    let entry-is : c.entry_by.result ≡ (chosen values).entry =
    c.entry_by.ensures
    ∙ ap entry_by (c.widths_by-m.ensures.value ∙ ap₂ widths_by range-is steps-is ∙ widths_measured values (omega arith) fits)
    ∙ entry-chosen values in
    (λ j. record { entry = entry-is j; range = range-is j; steps = steps-is j }) ∙ sym (measured_there values (omega arith))
