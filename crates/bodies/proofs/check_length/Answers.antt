-- `bodies::check_length` meets its contract: each refusal by its test, and what the tests that passed say.
-- Assumes nothing.
use mathlib.Core.Bool.{true}
use mathlib.Core.Path.{◌≡◌, sym, ◌∙◌}
use native.Mathlib.Omega.{arith}
use Rattle.contents.specs.Contents.{is_laid_out}
use Rattle.bodies.proofs.Bodies.{not_laid, body-cut, body-over}
use Rattle.bodies.proofs.check_length.Goals as goal
use Rattle.bodies.proofs.check_length.Goals.{Else-not-is_laid_out}

-- Here the entry is as laid out.
good : (c : Else-not-is_laid_out) → is_laid_out c.args.e ≡ true
good c = sym c.is_laid_out.ensures ∙ c.if-not-is_laid_out.false

pub returns-then-not-is_laid_out : goal.returns-then-not-is_laid_out
returns-then-not-is_laid_out c =
    let args = c.args in
    let bad = sym c.is_laid_out.ensures ∙ c.if-not-is_laid_out.true in
    record { refusal = sym (not_laid args.e args.body.now bad); e_value = tt }

pub returns-then-body-size : goal.returns-then-body-size
returns-then-body-size c =
    let args = c.args in
    record { refusal = sym (body-cut args.e args.body.now (good (goal.at.returns-then-body-size c).Else-not-is_laid_out) c.if-body-size.true); e_value = tt }

pub returns-then-size-body : goal.returns-then-size-body
returns-then-size-body c =
    let args = c.args in
    record { refusal = sym (body-over args.e args.body.now (good (goal.at.returns-then-size-body c).Else-not-is_laid_out) c.if-size-body.true); e_value = tt }

pub returns : goal.returns
returns c =
    record { refusal = tt; e_value = (good (goal.at.returns c).Else-not-is_laid_out, omega arith) }
