-- `candidates::entry_with` meets its contract: by the test, and then by the widths.
-- Assumes nothing.
use Rattle.std.proofs.Common.{sym, ap, ◌∙◌, arith}
use Rattle.candidates.specs.Measures.{widths_by, entry_by}
use Rattle.candidates.proofs.Calls.{with_there, with_missing}
use Rattle.candidates.proofs.entry_with.Goals as goal

pub returns-then-steps-gt-T : goal.returns-then-steps-gt-T
returns-then-steps-gt-T c =
    let args = c.args in
    c.no_entry.ensures ∙ sym (with_missing args.range args.steps (omega arith))

pub entry_by-requires : goal.entry_by-requires
unfolding widths_by
entry_by-requires c =
    (c.widths_by-m.ensures.plain_bound.0, (c.widths_by-m.ensures.plain_bound.1, omega (arith, ap (λ m. m.steps) c.widths_by-m.ensures.value)))

pub returns : goal.returns
returns c =
    let args = c.args in
    c.entry_by.ensures ∙ ap entry_by c.widths_by-m.ensures.value ∙ sym (with_there args.range args.steps (omega arith))
