-- `canonical::is_base` meets its contract: every word of the base that the loop has passed is the number of its lane.
-- Assumes nothing.
use mathlib.Core.Path.{◌≡◌, refl, sym, ap, ◌∙◌}
use Prim.Native.Nat.{◌*◌}
use native.Mathlib.Decide.{dec_lt}
use native.Mathlib.Omega.{arith}
use lib.ListN.{get_or}
use Rattle.lists.proofs.Tests.{false-true}
use Rattle.little.specs.Little.{little}
use Rattle.little.proofs.Little.{little-within}
use Rattle.canonical.proofs.Back.{base-words, base_word}
use Rattle.canonical.proofs.is_base.Goals as goal
use Rattle.canonical.proofs.is_base.Goals.{After-word}

pub loop-l-init : goal.loop-l-init
loop-l-init c = λ k h. absurd (omega arith)

-- the word that was read
read : (c : After-word) → c.word.result ≡ little c.args.body.now (c.loop-l.l * 8) 8
read c = c.word.ensures ∙ little-within c.args.body.now (c.loop-l.l * 8) 8 (omega arith)

pub returns-then-word-block : goal.returns-then-word-block
returns-then-word-block c =
    let args = c.args in (
      λ e. absurd (false-true e),
      λ is. absurd (c.if-word-block.true (read (goal.at.returns-then-word-block c).After-word ∙ base_word args.body.now args.block.now is c.loop-l.l (omega arith))),
    )

pub loop-l-preserved : goal.loop-l-preserved
loop-l-preserved c =
    let args = c.args in
    let l = c.loop-l.l in
    λ k h.
    elim (dec_lt k l) [
      | yes first ↦ c.loop-l.invariant k first
      | no last ↦
          let here : k ≡ l = omega arith in
          ap (λ k. little args.body.now (k * 8) 8) here ∙ sym (read (goal.at.loop-l-preserved c).After-word) ∙ c.if-word-block.false ∙ sym (ap (λ k. get_or args.block.now k 0) here)
    ]

pub returns : goal.returns
returns c =
    let args = c.args in
    (λ _. base-words args.body.now args.block.now (λ k h. c.loop-l.invariant k (omega arith)), λ _. refl)
