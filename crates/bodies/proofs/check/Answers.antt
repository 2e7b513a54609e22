-- `bodies::check` meets its contract: the entry and the length are tested first, and then the run indices.
-- Assumes nothing.
use mathlib.Core.Path.{sym, ◌∙◌}
use Rattle.bodies.proofs.Bodies.{body-whole, runs_done, runs_bad}
use Rattle.bodies.proofs.check.Goals as goal

pub has_good_runs-requires : goal.has_good_runs-requires
has_good_runs-requires c =
    let both = c.in_ok-check_length.ensures.e_value in record { e_value = both.0; body_len = both.1 }

pub returns-then-not-has_good_runs : goal.returns-then-not-has_good_runs
returns-then-not-has_good_runs c =
    let args = c.args in
    let right = c.in_ok-check_length.ensures.e_value in
    runs_bad (sym c.has_good_runs.ensures ∙ c.if-not-has_good_runs.true)
    ∙ sym (body-whole args.e args.body.now right.0 right.1)

pub returns : goal.returns
returns c =
    let args = c.args in
    let right = c.in_ok-check_length.ensures.e_value in
    runs_done (sym c.has_good_runs.ensures ∙ c.if-not-has_good_runs.false)
    ∙ sym (body-whole args.e args.body.now right.0 right.1)
