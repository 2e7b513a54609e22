-- `files::check_for` meets its contract: in edition 2 by the check of the whole file, and else by that which leaves
-- block b out.
-- Assumes nothing.
use Rattle.std.specs.Prelude.{Err}
use Rattle.std.proofs.lemmas.Result.{IfErr-weaker, on_ok_weaker}
use Rattle.std.proofs.Common.{◌≡◌, sym, ap, ◌∙◌}
use Rattle.contents.specs.Answers.{file_answer, number_of}
use Rattle.contents.specs.Contents.{edition_or}
use Rattle.contents.proofs.Answers.{refusal_numbered, told_err, told_ok}
use Rattle.files.specs.Files.{runs_tests, file_tests}
use Rattle.files.proofs.Others.{none_but}
use Rattle.files.proofs.Ranges.{contents-right, runs-good, file-runs, file-refused, file-true, other_ranges}
use Rattle.files.proofs.check_for.Goals as goal

pub returns-then-edition-ne2 : goal.returns-then-edition-ne2
returns-then-edition-ne2 c =
    let l = c.args.file.now in
    let a = c.check_but.result in
    let other : edition_or l ≡ 2 → ⊥ = λ e. c.if-edition-ne2.true (c.edition.ensures ∙ e) in record {
      refusal = IfErr-weaker a (λ r. Err r ≡ file_answer (runs_tests l)) (λ r. Err r ≡ file_answer (file_tests l))
          (λ r e. e ∙ sym (file-refused l (λ z. refusal_numbered r (ap number_of e ∙ z)))) c.check_but.ensures.refusal;
      file_value = c.check_but.ensures.file_value;
      i_value = c.check_but.ensures.i_value;
      file_value_2 = on_ok_weaker a (λ done. other_ranges l other done) c.check_but.ensures.file_value;
    }

pub returns : goal.returns
returns c =
    let l = c.args.file.now in record {
      refusal = told_err c.check.ensures;
      file_value = told_ok c.check.ensures (λ done. contents-right l (file-runs l done));
      i_value = told_ok c.check.ensures (λ done. none_but l c.args.b (runs-good l (file-runs l done)));
      file_value_2 = told_ok c.check.ensures (λ done. file-true l done);
    }
