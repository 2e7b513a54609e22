-- `search::search` meets its contract: each refusal by its test, and the rows by what `list_rows` ensures.
-- Assumes nothing.
use Rattle.std.specs.Prelude.{Ok}
use Rattle.std.proofs.lemmas.Result.{err_from_is_err_and}
use Rattle.std.proofs.Common.{◌≡◌, length, sym, ap, ◌∙◌, ap₂, leb-true}
use Rattle.contents.specs.declared.FileRefusal.TheVariants.{Room}
use Rattle.contents.specs.Answers.{file_answer, number_of}
use Rattle.contents.specs.Contents.{contents_tests}
use Rattle.contents.proofs.Answers.{refusal_numbered}
use Rattle.search.specs.Search.{counts, found, opened_tests}
use Rattle.search.proofs.Answers.{opened-good, opened-true, search-refused, search-done, search_nothing, contents-first, opened_second, no_room, room_there}
use Rattle.search.proofs.search.Goals as goal
use Rattle.search.proofs.search.Goals.{In_ok-check, In_ok-check_opened}

-- the contents are right
right : (c : In_ok-check) → file_answer (contents_tests c.args.file.now (length c.args.file.now)) ≡ Ok tt
right c = sym c.in_ok-check.ensures

-- the opened blocks are
good : (c : In_ok-check_opened) → file_answer (opened_tests c.args.file.now c.args.low c.args.high) ≡ Ok tt
good c = sym c.in_ok-check_opened.ensures

pub returns-in_err-check : goal.returns-in_err-check
returns-in_err-check c =
    let args = c.args in
    let given = err_from_is_err_and c.from_residual.result c.from_residual.ensures.1 in
    let is =
    search-refused args.file.now args.low args.high args.rows.now _
    (contents-first args.file.now args.low args.high args.rows.now (λ d. refusal_numbered _ (ap number_of (c.in_err-check.ensures ∙ d)))
    ∙ sym c.in_err-check.ensures) in
    rw (given.1, given.2) record { value = sym is.0; rows_after = sym is.1 }

pub count_opened-k-requires : goal.count_opened-k-requires
count_opened-k-requires c = right (goal.at.count_opened-k-requires c).In_ok-check

pub returns-then-k-eq0 : goal.returns-then-k-eq0
returns-then-k-eq0 c =
    let args = c.args in
    let is =
    search_nothing args.file.now args.low args.high args.rows.now (right (goal.at.returns-then-k-eq0 c).In_ok-check)
    (sym c.count_opened-k.ensures ∙ c.if-k-eq0.true) in
    record { value = sym is.0; rows_after = sym is.1 }

pub check_opened-requires : goal.check_opened-requires
check_opened-requires c = right (goal.at.check_opened-requires c).In_ok-check

pub returns-in_err-check_opened : goal.returns-in_err-check_opened
returns-in_err-check_opened c =
    let args = c.args in
    let given = err_from_is_err_and c.from_residual-in_err-check_opened.result c.from_residual-in_err-check_opened.ensures.1 in
    let is =
    search-refused args.file.now args.low args.high args.rows.now _
    (opened_second args.file.now args.low args.high args.rows.now (right (goal.at.returns-in_err-check_opened c).In_ok-check) (λ d. refusal_numbered _ (ap number_of (c.in_err-check_opened.ensures ∙ d)))
    ∙ sym c.in_err-check_opened.ensures) in
    rw (given.1, given.2) record { value = sym is.0; rows_after = sym is.1 }

pub has_room-requires : goal.has_room-requires
has_room-requires c =
    let args = c.args in
    record { contents_taken = right (goal.at.has_room-requires c).In_ok-check; false_value = opened-good args.file.now args.low args.high (good (goal.at.has_room-requires c).In_ok-check_opened); k_value = c.count_opened-k.ensures }

pub returns-then-not-has_room : goal.returns-then-not-has_room
returns-then-not-has_room c =
    let args = c.args in
    let is =
    search-refused args.file.now args.low args.high args.rows.now Room
    (no_room args.file.now args.low args.high args.rows.now (right (goal.at.returns-then-not-has_room c).In_ok-check) (good (goal.at.returns-then-not-has_room c).In_ok-check_opened) (sym c.has_room.ensures ∙ c.if-not-has_room.true)) in
    record { value = sym is.0; rows_after = sym is.1 }

pub list_rows-n-requires : goal.list_rows-n-requires
list_rows-n-requires c =
    let args = c.args in
    let l = args.file.now in
    let there = sym c.has_room.ensures ∙ c.if-not-has_room.false in
    record { contents_taken = right (goal.at.list_rows-n-requires c).In_ok-check; false_value = opened-good l args.low args.high (good (goal.at.list_rows-n-requires c).In_ok-check_opened); true_value = opened-true l args.low args.high (good (goal.at.list_rows-n-requires c).In_ok-check_opened); high_in_bounds = leb-true (length (found l args.low args.high)) (length args.rows.now) there }

pub returns : goal.returns
returns c =
    let args = c.args in
    let l = args.file.now in
    let there = sym c.has_room.ensures ∙ c.if-not-has_room.false in
    let is =
    search-done l args.low args.high args.rows.now
    (room_there l args.low args.high args.rows.now (right (goal.at.returns c).In_ok-check) (good (goal.at.returns c).In_ok-check_opened) there) in
    record { value = ap₂ (λ n k. Ok (counts n k)) c.list_rows-n.ensures.value c.count_opened-k.ensures ∙ sym is.0; rows_after = c.list_rows-n.ensures.rows_after ∙ sym is.1 }
