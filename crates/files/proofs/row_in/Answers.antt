-- `files::row_in` meets its contract: each kind has its lookup, and only a body of runs can still be refused.
-- Assumes nothing.
use Rattle.std.specs.Prelude.{Ok, Err}
use Rattle.std.proofs.Common.{◌<◌, get_or, sym, ap, ◌∙◌, arith}
use Rattle.lists.specs.Pick.{pick}
use Rattle.contents.specs.declared.FileRefusal.TheVariants.{Runs}
use Rattle.contents.proofs.Laid.{laid_differences, laid_kind}
use Rattle.bodies.specs.Bodies.{block_of, has_good_runs}
use Rattle.bodies.proofs.Bodies.{block_differences, other-runs}
use Rattle.files.specs.Rows.{uncounted, given}
use Rattle.files.proofs.Places.{given_counted, given_uncounted}
use Rattle.files.proofs.row_in.Goals as goal

pub sum_up-requires : goal.sum_up-requires
sum_up-requires c =
    let laid = laid_differences c.args.e c.requires.e_value c.in-2.is in
    record { width_bound = laid.0; body_len = c.requires.body_len ∙ laid.1; place_bound = c.requires.place_bound }

pub run_row-requires : goal.run_row-requires
run_row-requires c =
    record { e_value = c.requires.e_value; kind_value = c.in-3.is; body_len = c.requires.body_len; place_bound = c.requires.place_bound }

pub packed_row-requires : goal.packed_row-requires
packed_row-requires c =
    record { e_value = c.requires.e_value; kind_bound = omega (arith, laid_kind c.args.e c.requires.e_value); body_len = c.requires.body_len; place_bound = c.requires.place_bound }

pub returns-in-2 : goal.returns-in-2
returns-in-2 c =
    let e = c.args.e in
    let body = c.args.body.now in
    let place = c.args.place in
    ap (λ v. Ok (uncounted v)) (c.sum_up.ensures ∙ ap (λ block. get_or block place 0) (sym (block_differences e body c.in-2.is)))
    ∙ sym
    (ap (λ b. pick b (Ok (given e place (get_or (block_of e body) place 0))) (Err (Runs c.args.i))) (other-runs e body (λ k. omega arith))
    ∙ ap Ok (given_uncounted e place (get_or (block_of e body) place 0) (omega arith)))

pub returns-in-3 : goal.returns-in-3
returns-in-3 c =
    let e = c.args.e in
    let body = c.args.body.now in
    let place = c.args.place in
    c.run_row.ensures
    ∙ ap (λ row. pick (has_good_runs e body) (Ok row) (Err (Runs c.args.i))) (sym (given_uncounted e place (get_or (block_of e body) place 0) (omega arith)))

pub returns-in_default : goal.returns-in_default
returns-in_default c =
    let e = c.args.e in
    let body = c.args.body.now in
    let place = c.args.place in
    let low : e.kind < 2 = omega (arith, laid_kind e c.requires.e_value) in
    ap Ok c.packed_row.ensures
    ∙ sym
    (ap (λ b. pick b (Ok (given e place (get_or (block_of e body) place 0))) (Err (Runs c.args.i))) (other-runs e body (λ k. omega arith))
    ∙ ap Ok (given_counted e place (get_or (block_of e body) place 0) low))
