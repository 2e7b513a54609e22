-- `compare::differing` meets its contract: the lengths are tested, and blocks that are the same have no place to list.
-- Assumes nothing.
use mathlib.Core.Path.{sym, ◌∙◌}
use Rattle.std.proofs.lemmas.Result.{err_from_is_err_and}
use Rattle.compare.proofs.Noted.{lengths-refused, lengths_are, none_differ, some_differ}
use Rattle.compare.proofs.differing.Goals as goal

pub returns-in_err-check_lengths : goal.returns-in_err-check_lengths
returns-in_err-check_lengths c =
    let args = c.args in
    let given = err_from_is_err_and c.from_residual.result c.from_residual.ensures.1 in
    let both = lengths-refused args.left.now args.right.now args.places.now c.in_err-check_lengths.ensures in
    rw (given.1, given.2) record { value = both.0; places_after = both.1 }

pub are_same-requires : goal.are_same-requires
are_same-requires c =
    let args = c.args in
    let done = sym c.in_ok-check_lengths.ensures in
    let long = lengths_are args.left.now args.right.now args.places.now done in
    record { left_len = long.0; right_len = long.1.0 }

pub returns-then-are_same : goal.returns-then-are_same
returns-then-are_same c =
    let args = c.args in
    let done = sym c.in_ok-check_lengths.ensures in
    let both = none_differ args.left.now args.right.now args.places.now done (sym c.are_same.ensures ∙ c.if-are_same.true) in record { value = both.0; places_after = both.1 }

pub list_places-requires : goal.list_places-requires
list_places-requires c =
    let args = c.args in
    let done = sym c.in_ok-check_lengths.ensures in
    let both = lengths_are args.left.now args.right.now args.places.now done in record { left_len = both.0; right_len = both.1.0; places_len = both.1.1 }

pub returns : goal.returns
returns c =
    let args = c.args in
    let done = sym c.in_ok-check_lengths.ensures in
    let both = some_differ args.left.now args.right.now args.places.now done c.list_places.ensures.value c.list_places.ensures.places_after in record { value = both.0; places_after = both.1 }
