-- `files::run_row` meets its contract: of the tests of its body only that of the run indices is left.
-- Assumes nothing.
use Rattle.std.specs.Prelude.{Ok, Err}
use Rattle.std.proofs.Common.{◌≡◌, get_or, sym, ap, ◌∙◌}
use Rattle.lists.specs.Pick.{pick}
use Rattle.contents.specs.declared.FileRefusal.TheVariants.{Runs}
use Rattle.contents.proofs.Laid.{laid_runs}
use Rattle.bodies.specs.Bodies.{value_count, block_of, has_good_runs}
use Rattle.bodies.proofs.Bodies.{block_runs, runs-runs, body-whole}
use Rattle.files.specs.Rows.{uncounted}
use Rattle.files.proofs.Files.{runs-tested}
use Rattle.files.proofs.Lookups.{run_value}
use Rattle.files.proofs.Places.{runs_wrong, runs-right}
use Rattle.files.proofs.run_row.Goals as goal
use Rattle.files.proofs.run_row.Goals.{After-check}

-- what the check says of the run indices
asked_is : (c : After-check) → c.check.result ≡ pick (has_good_runs c.args.e c.args.body.now) (Ok tt) (Err (Runs 0))
asked_is c =
    c.check.ensures ∙ body-whole c.args.e c.args.body.now c.requires.e_value c.requires.body_len ∙ runs-tested _

pub returns-then-is_err : goal.returns-then-is_err
returns-then-is_err c =
    let e = c.args.e in
    let body = c.args.body.now in
    let bad = runs_wrong (has_good_runs e body) (asked_is (goal.at.returns-then-is_err c).After-check) (sym c.is_err.ensures.value ∙ c.if-is_err.true) in
    sym (ap (λ b. pick b (Ok (uncounted (get_or (block_of e body) c.args.place 0))) (Err (Runs c.args.i))) bad)

pub returns : goal.returns
returns c =
    let e = c.args.e in
    let body = c.args.body.now in
    let place = c.args.place in
    let good = runs-right (has_good_runs e body) (asked_is (goal.at.returns c).After-check) (sym c.is_err.ensures.value ∙ c.if-is_err.false) in
    let long = c.requires.body_len ∙ (laid_runs e c.requires.e_value c.requires.kind_value).0 in
    let value =
    c.run_value.ensures
    ∙ run_value (value_count e) place body long (sym (runs-runs e body c.requires.kind_value) ∙ good) c.requires.place_bound
    ∙ ap (λ block. get_or block place 0) (sym (block_runs e body c.requires.kind_value)) in
    ap (λ v. Ok (uncounted v)) value ∙ sym (ap (λ b. pick b (Ok (uncounted (get_or (block_of e body) place 0))) (Err (Runs c.args.i))) good)
