-- `files::check_runs` meets its contract: no block is left out.
-- Assumes nothing.
use Rattle.std.specs.Prelude.{Ok, Err, IfErr, OnOk}
use Rattle.std.proofs.Common.{◌≡◌, sym, arith}
use Rattle.contents.specs.Answers.{FileAnswer}
use Rattle.bodywise.proofs.Told.{count-read}
use Rattle.files.proofs.Others.{none_bad}
use Rattle.files.proofs.check_runs.Goals as goal

-- an answer is known by its refusal, and by what is known where it is done
known : {P Q : Type 0} {b : FileAnswer} (a : FileAnswer) → IfErr a (λ r. Err r ≡ b) → OnOk a P → OnOk a Q → (P → Q → b ≡ Ok tt) → a ≡ b
known (Ok _) refused p q done = sym (done p q)
known (Err r) refused p q done = refused

pub returns : goal.returns
returns c =
    let l = c.args.file.now in
    let told = c.check_but.ensures in
    known c.check_but.result told.refusal told.file_value told.i_value
    (λ right others. none_bad l right c.count.result others (λ h. absurd (omega (arith, c.count.ensures, count-read l right))))
