-- `bodies::runs_through` meets its contract: indices and values are read whole, and decode takes them exactly when
-- every index is in range.
-- Assumes nothing.
use mathlib.Core.List.{[], ◌∷◌}
use mathlib.Core.Path.{ap, ap₂, ◌∙◌}
use Rattle.std.specs.Prelude.{Err}
use Rattle.places.specs.Answers.{is_done}
use Rattle.places.specs.Takes.{answer_for}
use Rattle.runs.specs.Calls.{decode_takes, decode_leaves}
use Rattle.contents.specs.declared.FileRefusal.TheVariants.{Runs}
use Rattle.contents.specs.Answers.{file_answer}
use Rattle.bodies.proofs.Bodies.{runs_taken, runs-left}
use Rattle.bodies.proofs.runs_through.Goals as goal

pub returns : goal.returns
returns c =
    let args = c.args in
    let body = args.body.now in
    let values = args.values.now in
    let indices = args.indices.now in
    let output = args.output.now in
    let read = ap₂ (λ v x. decode_takes v x output) c.read_words.ensures c.read_pairs.ensures in
    let taken = ap is_done (c.decode.ensures.value ∙ ap answer_for read) ∙ runs_taken body indices values output c.requires.body_len c.requires.indices_len c.requires.output_len in record {
      value = c.runs_answer.ensures ∙ ap (λ b. file_answer ((b, Err (Runs 0)) ∷ [])) taken;
      output_after = c.decode.ensures.output_after
          ∙ ap₂ (λ v x. decode_leaves v x output) c.read_words.ensures c.read_pairs.ensures
          ∙ runs-left body indices values output c.requires.body_len c.requires.indices_len c.requires.output_len;
    }
