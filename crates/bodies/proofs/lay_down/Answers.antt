-- `bodies::lay_down` meets its contract: each kind has its block, and only a body of runs can still be refused.
-- Assumes nothing.
use mathlib.Core.List.{[], ◌∷◌}
use mathlib.Core.Path.{sym, ap, ap₂, ◌∙◌}
use Prim.Native.Nat.{◌<◌}
use native.Mathlib.Omega.{arith}
use borrow.Author.Rules.{rules}
use Rattle.std.specs.Prelude.{Err}
use Rattle.lists.specs.Pick.{pick}
use Rattle.contents.specs.declared.FileRefusal.TheVariants.{Runs}
use Rattle.contents.specs.Answers.{file_answer}
use Rattle.contents.proofs.Laid.{laid_differences, laid_runs, laid_kind}
use Rattle.bodies.proofs.Blocks.{block_raised}
use Rattle.bodies.proofs.Bodies.{laid_plain, block_differences, block_runs, other-done, runs-runs}
use Rattle.bodies.proofs.lay_down.Goals as goal

pub differences_out-requires : goal.differences_out-requires
differences_out-requires c =
    let laid = laid_differences c.args.e c.requires.e_value c.in-2.is in
    record { width_bound = laid.0; body_len = c.requires.body_len ∙ laid.1; output_len = search rules }

pub overflow_sub-e : goal.overflow_sub-e
overflow_sub-e c = omega (arith, laid_runs c.args.e c.requires.e_value c.in-3.is)

pub runs_out-requires : goal.runs_out-requires
runs_out-requires c =
    let laid = laid_runs c.args.e c.requires.e_value c.in-3.is in
    record { n_bound = laid.2; body_len = c.requires.body_len ∙ laid.0; output_len = search rules }

pub raised_out-requires : goal.raised_out-requires
raised_out-requires c =
    let low : c.args.e.kind < 2 = omega (arith, laid_kind c.args.e c.requires.e_value) in
    let laid = laid_plain c.args.e c.requires.e_value low in
    record { width_bound = laid.0; body_len = c.requires.body_len ∙ laid.1; output_len = search rules }

pub returns-in-2 : goal.returns-in-2
returns-in-2 c =
    let args = c.args in
    let e = args.e in
    let body = args.body.now in
    let both = other-done e body _ args.output.now (λ k. omega arith) (c.differences_out.ensures ∙ sym (block_differences e body c.in-2.is)) in record { value = both.0; output_after = both.1 }

pub returns-in-3 : goal.returns-in-3
returns-in-3 c =
    let args = c.args in
    let e = args.e in
    let body = args.body.now in
    let runs = sym (runs-runs e body c.in-3.is) in
    let block = sym (block_runs e body c.in-3.is) in record { value = c.runs_out.ensures.value ∙ ap (λ b. file_answer ((b, Err (Runs 0)) ∷ [])) runs; output_after = c.runs_out.ensures.output_after ∙ ap₂ (λ b l. pick b l args.output.now) runs block }

pub returns-in_default : goal.returns-in_default
returns-in_default c =
    let e = c.args.e in
    let body = c.args.body.now in
    let low : e.kind < 2 = omega (arith, laid_kind e c.requires.e_value) in
    let both = other-done e body _ c.args.output.now (λ k. omega arith) (c.raised_out.ensures ∙ sym (block_raised e body c.requires.e_value low)) in record { value = both.0; output_after = both.1 }
