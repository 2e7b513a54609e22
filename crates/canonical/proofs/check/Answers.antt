-- `canonical::check` meets its contract: each refusal by its test, and then what the walk over the blocks answers.
-- Assumes nothing.
use mathlib.Core.Path.{◌≡◌, sym, ap, ◌∙◌}
use Rattle.std.specs.Prelude.{Ok}
use Rattle.std.proofs.lemmas.Result.{err_from_is_err_and}
use Rattle.contents.specs.Answers.{file_answer, number_of}
use Rattle.contents.specs.Contents.{edition}
use Rattle.contents.proofs.Answers.{refusal_numbered}
use Rattle.bodywise.proofs.Told.{edition-read}
use Rattle.files.specs.Files.{runs_tests}
use Rattle.files.proofs.Ranges.{contents-right}
use Rattle.canonical.proofs.Calls.{not_begun, first-refused, second_left}
use Rattle.canonical.proofs.check.Goals as goal
use Rattle.canonical.proofs.check.Goals.{Else-edition-ne2, In_ok-check_runs}

-- the file is right up to its run indices
done : (c : In_ok-check_runs) → file_answer (runs_tests c.args.file.now) ≡ Ok tt
done c = sym c.in_ok-check_runs.ensures

pub returns-in_err-check_runs : goal.returns-in_err-check_runs
returns-in_err-check_runs c =
    let l = c.args.file.now in
    let given = err_from_is_err_and c.from_residual.result c.from_residual.ensures.1 in
    rw (given.1, given.2)
    (c.in_err-check_runs.ensures ∙ sym (not_begun l (λ e. refusal_numbered _ (ap number_of c.in_err-check_runs.ensures ∙ e))))

pub returns-then-edition-ne2 : goal.returns-then-edition-ne2
returns-then-edition-ne2 c =
    let l = c.args.file.now in
    sym (first-refused l (done (goal.at.returns-then-edition-ne2 c).In_ok-check_runs) (λ e. c.if-edition-ne2.true (c.edition.ensures ∙ e)))

second : (c : Else-edition-ne2) → edition c.args.file.now ≡ 2
second c =
    let l = c.args.file.now in
    sym (c.edition.ensures ∙ edition-read l (contents-right l (let it : file_answer (runs_tests c.args.file.now) ≡ Ok tt = sym c.in_ok-check_runs.ensures in it))) ∙ c.if-edition-ne2.false

pub check_blocks-requires : goal.check_blocks-requires
check_blocks-requires c =
    record { file_value = done (goal.at.check_blocks-requires c).In_ok-check_runs; file_value_2 = second (goal.at.check_blocks-requires c).Else-edition-ne2 }

pub returns : goal.returns
returns c =
    c.check_blocks.ensures ∙ sym (second_left c.args.file.now (done (goal.at.returns c).In_ok-check_runs) (second (goal.at.returns c).Else-edition-ne2))
