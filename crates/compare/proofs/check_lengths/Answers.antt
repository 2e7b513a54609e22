-- `compare::check_lengths` meets its contract, length by length.
-- Assumes nothing.
use mathlib.Core.Path.{sym, ◌∙◌}
use borrow.Author.Tests.{eq-eqb, ne_eqb}
use Rattle.contents.proofs.Answers.{passed, stopped, none_left}
use Rattle.compare.proofs.check_lengths.Goals as goal

pub returns-then-left-ne1024 : goal.returns-then-left-ne1024
returns-then-left-ne1024 c = sym (stopped _ _ (ne_eqb _ 1024 c.if-left-ne1024.true))

pub returns-then-right-ne1024 : goal.returns-then-right-ne1024
returns-then-right-ne1024 c =
    sym (passed _ _ (eq-eqb _ 1024 c.if-left-ne1024.false) ∙ stopped _ _ (ne_eqb _ 1024 c.if-right-ne1024.true))

pub returns-then-places-ne1024 : goal.returns-then-places-ne1024
returns-then-places-ne1024 c =
    sym (passed _ _ (eq-eqb _ 1024 c.if-left-ne1024.false) ∙ passed _ _ (eq-eqb _ 1024 c.if-right-ne1024.false) ∙ stopped _ _ (ne_eqb _ 1024 c.if-places-ne1024.true))

pub returns : goal.returns
returns c =
    sym (passed _ _ (eq-eqb _ 1024 c.if-left-ne1024.false)
    ∙ passed _ _ (eq-eqb _ 1024 c.if-right-ne1024.false)
    ∙ passed _ _ (eq-eqb _ 1024 c.if-places-ne1024.false)
    ∙ none_left)
