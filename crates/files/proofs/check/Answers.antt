-- `files::check` meets its contract: the tests up to the run indices first, and behind these the ranges.
-- Assumes nothing.
use Rattle.std.proofs.lemmas.Result.{err_from_is_err_and}
use Rattle.std.proofs.Common.{sym, ap, ◌∙◌}
use Rattle.contents.specs.Answers.{number_of}
use Rattle.contents.proofs.Answers.{refusal_numbered}
use Rattle.files.proofs.Ranges.{file-refused, file_ranges}
use Rattle.files.proofs.check.Goals as goal

pub returns-in_err-check_runs : goal.returns-in_err-check_runs
returns-in_err-check_runs c =
    let l = c.args.file.now in
    let given = err_from_is_err_and c.from_residual.result c.from_residual.ensures.1 in
    rw (given.1, given.2)
    (c.in_err-check_runs.ensures ∙ sym (file-refused l (λ z. refusal_numbered _ (ap number_of c.in_err-check_runs.ensures ∙ z))))

pub check_ranges-requires : goal.check_ranges-requires
check_ranges-requires c = sym c.in_ok-check_runs.ensures

pub returns : goal.returns
returns c = c.check_ranges.ensures ∙ sym (file_ranges c.args.file.now (sym c.in_ok-check_runs.ensures))
