-- `renumber::renumber` meets its contract: by the tests, and then the new file is laid down by what was kept of its blocks.
-- Assumes nothing.
use mathlib.Core.Bool.{true}
use mathlib.Core.Path.{◌≡◌, sym, ap, ap₂, ◌∙◌}
use native.Mathlib.Omega.{arith}
use lib.ListN.{length}
use borrow.Author.Rules.{rules}
use borrow.Author.Tests.{not-true, not-false}
use Rattle.std.specs.Prelude.{Ok, Err}
use Rattle.std.proofs.lemmas.Result.{err_from_is_err_and}
use Rattle.contents.specs.declared.FileRefusal.TheVariants.{Room}
use Rattle.contents.specs.Answers.{file_answer}
use Rattle.files.specs.Files.{runs_tests}
use Rattle.renumber.specs.declared.RenumberRefusal.TheVariants.{File, Taken}
use Rattle.renumber.specs.InnerPairs.{Paired}
use Rattle.renumber.specs.Renumber.{sizes, new_file, list_answer}
use Rattle.renumber.proofs.Calls.{refused, runs_stop, else_stops, lists_stop, row-stops, room-stops, nothing_stops, written}
use Rattle.renumber.proofs.Lists.{refusal_numbered, lists-taken, lists_paired}
use Rattle.renumber.proofs.renumber.Goals as goal
use Rattle.renumber.proofs.renumber.Goals.{Else-not-found, In_ok-check_runs, In_default}

pub returns-in_err-check_runs : goal.returns-in_err-check_runs
returns-in_err-check_runs c =
    let args = c.args in
    let given = err_from_is_err_and c.from_residual.result c.from_residual.ensures.1 in
    let both = refused args.file.now args.old.now args.new.now args.order.now args.output.now (File _)
    (runs_stop args.file.now args.old.now args.new.now args.order.now args.output.now _ c.in_err-check_runs.ensures) in
    rw (given.1, given.2) record { value = both.0; output_after = both.1 }

runs_done : (c : In_ok-check_runs) → file_answer (runs_tests c.args.file.now) ≡ Ok tt
runs_done c = sym c.in_ok-check_runs.ensures

pub returns-in-Err : goal.returns-in-Err
returns-in-Err c =
    let args = c.args in
    let by = else_stops args.file.now args.old.now args.new.now args.order.now args.output.now _
    (λ done. lists_stop args.file.now args.old.now args.new.now args.order.now args.output.now done _ c.in-Err.ensures (refusal_numbered _)) in
    record { value = ap Err c.refuse.ensures ∙ by.0; output_after = by.1 }

good : (c : In_default) → let args = c.args in list_answer args.old.now args.new.now args.order.now ≡ Ok tt
good c = sym c.in_default.ensures

paired : (c : In_default) → let args = c.args in Paired args.old.now args.new.now args.order.now
paired c =
    let args = c.args in
    lists_paired args.old.now args.new.now args.order.now (lists-taken args.old.now args.new.now args.order.now (good c))

pub measure_blocks-found-requires : goal.measure_blocks-found-requires
measure_blocks-found-requires c =
    record { file_value = runs_done (goal.at.measure_blocks-found-requires c).In_ok-check_runs; paired = paired (goal.at.measure_blocks-found-requires c).In_default; kept_len = (search rules, search rules) }

pub returns-then-not-found : goal.returns-then-not-found
returns-then-not-found c =
    let args = c.args in
    let found = c.measure_blocks-found in
    let by = else_stops args.file.now args.old.now args.new.now args.order.now args.output.now (Taken found.result.taken)
    (λ done.
    let taken = found.ensures.taken (not-true _ c.if-not-found.true) done in
    row-stops args.file.now args.old.now args.new.now args.order.now args.output.now done (good (goal.at.returns-then-not-found c).In_default) found.result.taken taken.0 taken.1) in
    record { value = ap Err c.refuse-then-not-found.ensures ∙ by.0; output_after = by.1 }

passes : (c : Else-not-found) → c.measure_blocks-found.result.passes ≡ true
passes c = (not-false _ c.if-not-found.false)

size_is : (c : Else-not-found) → let args = c.args in c.measure_blocks-found.result.size ≡ length (new_file args.old.now args.new.now args.file.now)
size_is c = c.measure_blocks-found.ensures.size (passes c)

pub returns-then-output-found : goal.returns-then-output-found
returns-then-output-found c =
    let found = c.measure_blocks-found in
    let args = c.args in
    let both = refused args.file.now args.old.now args.new.now args.order.now args.output.now (File Room)
    (room-stops args.file.now args.old.now args.new.now args.order.now args.output.now (found.ensures.ready (passes (goal.at.returns-then-output-found c).Else-not-found)).file (good (goal.at.returns-then-output-found c).In_default) (found.ensures.free (passes (goal.at.returns-then-output-found c).Else-not-found))
    (omega (arith, size_is (goal.at.returns-then-output-found c).Else-not-found))) in record { value = both.0; output_after = both.1 }

pub lay_file-requires : goal.lay_file-requires
lay_file-requires c =
    record { ready = c.measure_blocks-found.ensures.ready (passes (goal.at.lay_file-requires c).Else-not-found); file_in_bounds = omega (arith, size_is (goal.at.lay_file-requires c).Else-not-found) }

pub returns : goal.returns
returns c =
    let found = c.measure_blocks-found in
    let args = c.args in
    let l = args.file.now in
    let old = args.old.now in
    let new = args.new.now in
    let order = args.order.now in
    let output = args.output.now in
    let done = nothing_stops l old new order output (found.ensures.ready (passes (goal.at.returns c).Else-not-found)).file (good (goal.at.returns c).In_default) (found.ensures.free (passes (goal.at.returns c).Else-not-found)) (omega (arith, size_is (goal.at.returns c).Else-not-found)) in
    let given = written l old new order output done in
    record { value = ap₂ (λ n k. Ok (sizes n k)) (size_is (goal.at.returns c).Else-not-found) (found.ensures.changed (passes (goal.at.returns c).Else-not-found)) ∙ given.0; output_after = c.lay_file.ensures ∙ given.1 }
