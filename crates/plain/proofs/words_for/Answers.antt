-- `plain::words_for` meets its contract. The loop's invariant: the words of the first b bits are counted.
-- Assumes nothing.
use mathlib.Core.Path.{◌≡◌, refl, sym, ap, ap₂, ◌∙◌}
use Prim.Native.Nat.{◌+◌}
use native.Mathlib.Omega.{arith}
use Rattle.places.proofs.Places.{size-most}
use Rattle.plain.specs.Plain.{words_for}
use Rattle.plain.proofs.Words.{words-next, words-few}
use Rattle.plain.proofs.words_for.Goals as goal
use Rattle.plain.proofs.words_for.Goals.{After-new_word-words}

pub loop-b-init : goal.loop-b-init
unfolding words_for
loop-b-init c = refl

pub new_word-words-requires : goal.new_word-words-requires
new_word-words-requires c =
    record { size = c.requires.size; width_le_t = (c.requires.width_le_t.0, c.requires.width_le_t.1, c.loop-b-test.true) }

-- one bit more
next : (c : After-new_word-words)
    → let args = c.args in
    c.loop-b.words + c.new_word-words.result ≡ words_for args.t args.width args.row (c.loop-b.b + 1)
next c = ap₂ (λ m n. m + n) c.loop-b.invariant c.new_word-words.ensures ∙ sym (words-next _ _ _ _)

pub overflow_add-words : goal.overflow_add-words
overflow_add-words c =
    omega (arith, next (goal.at.overflow_add-words c).After-new_word-words, words-few c.args.t c.args.width c.args.row (c.loop-b.b + 1), size-most c.requires.size)

pub loop-b-preserved : goal.loop-b-preserved
loop-b-preserved c = next (goal.at.loop-b-preserved c).After-new_word-words

pub returns : goal.returns
returns c =
    let args = c.args in
    c.loop-b.invariant ∙ ap (words_for args.t args.width args.row) (omega arith)
