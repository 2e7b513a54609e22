-- `bodies::runs_few` meets its contract: the part of the array that is lent is as long as there are run values.
-- Assumes nothing.
use mathlib.Core.List.{[], ◌∷◌}
use mathlib.Core.Path.{sym, ap, ◌∙◌}
use Prim.Native.Nat.{◌+◌, ◌*◌}
use native.Mathlib.Omega.{arith}
use borrow.Author.Rules.{rules}
use Rattle.std.specs.Prelude.{Err}
use Rattle.lists.specs.Pick.{pick}
use Rattle.runs.specs.Runs.{decode_of}
use Rattle.contents.specs.declared.FileRefusal.TheVariants.{Runs}
use Rattle.contents.specs.Answers.{file_answer}
use Rattle.bodies.specs.Bodies.{words_from, run_indices, indexed}
use Rattle.bodies.proofs.Bodies.{lent}
use Rattle.bodies.proofs.runs_few.Goals as goal

pub slice_bounds-runs_through-end-2 : goal.slice_bounds-runs_through-end-2
slice_bounds-runs_through-end-2 c = sym (lent 64 _ (omega arith))

pub runs_through-requires : goal.runs_through-requires
runs_through-requires c =
    record { body_len = c.requires.body_len ∙ ap (λ m. 2048 + 8 * m) (sym (lent 64 c.args.n c.requires.n_bound)); indices_len = search rules; output_len = search rules }

pub returns : goal.returns
returns c =
    let body = c.args.body.now in
    let long = lent 64 c.args.n c.requires.n_bound in record {
      value = c.runs_through.ensures.value ∙ ap (λ n. file_answer ((indexed n body, Err (Runs 0)) ∷ [])) long;
      output_after = c.runs_through.ensures.output_after
          ∙ ap (λ n. pick (indexed n body) (decode_of (words_from body 2048 n) (run_indices body)) c.args.output.now) long;
    }
