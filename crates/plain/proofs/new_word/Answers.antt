-- `plain::new_word` meets its contract: each case by its test.
-- Assumes nothing.
use mathlib.Core.Path.{◌≡◌, sym, ◌∙◌}
use Prim.Native.Nat.{◌-◌}
use borrow.Author.Tests.{eq-eqb, ne_eqb}
use Rattle.plain.specs.Plain.{word_of, new_word_lem}
use Rattle.plain.proofs.new_word.Goals as goal

pub returns-then-b-eq0 : goal.returns-then-b-eq0
unfolding new_word_lem
returns-then-b-eq0 c = simp (eq-eqb _ 0 c.if-b-eq0.true)

pub returns-then-word_of : goal.returns-then-word_of
unfolding new_word_lem
returns-then-word_of c =
    let same = sym c.word_of.ensures ∙ c.if-word_of.true ∙ c.word_of-2.ensures in
    simp (ne_eqb _ 0 c.if-b-eq0.false, eq-eqb _ _ same)

pub returns : goal.returns
unfolding new_word_lem
returns c =
    let other : word_of c.args.t c.args.width c.args.row c.args.b ≡ word_of c.args.t c.args.width c.args.row (c.args.b - 1) → ⊥ =
    λ e. c.if-word_of.false (c.word_of.ensures ∙ e ∙ sym c.word_of-2.ensures) in
    simp (ne_eqb _ 0 c.if-b-eq0.false, ne_eqb _ _ other)
