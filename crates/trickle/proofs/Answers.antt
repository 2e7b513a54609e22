-- What start and ask answer, by the tests that they make, and what a refused call leaves.
-- Assumes nothing.
use mathlib.Core.List.{List}
use mathlib.Core.Path.{◌≡◌, refl, sym, ap, ◌∙◌}
use Prim.Native.Nat.{ℕ, ◌≤◌, ◌<◌}
use lib.ListN.{length}
use borrow.Author.Tests.{le-leb, lt-leb, eq-eqb, ne_eqb}
use Rattle.lists.proofs.Answers as every
use Rattle.places.proofs.Answers.{number-apart}
use Rattle.trickle.specs.declared.State.{State}
use Rattle.trickle.specs.declared.TrickleAnswer.{TrickleAnswer}
use Rattle.trickle.specs.declared.TrickleAnswer.TheVariants.{Done, Width, Block, Early}
use Rattle.trickle.specs.Answers.{number_of, trickle_answer, left}
use Rattle.trickle.specs.Trickle.{body_size, width_of, count_of, start_answer, ask_answer, values_of, ask_leaves}

-- the width of a start
pub start-wide : (w : ℕ) → 64 < w → start_answer w ≡ Width
unfolding trickle_answer
start-wide w h = simp (lt-leb w 64 h)

pub start-done : (w : ℕ) → w ≤ 64 → start_answer w ≡ Done
unfolding trickle_answer
start-done w h = simp (le-leb w 64 h)

-- the output of an ask, and the bytes held
module _ (s : State) (output : List ℕ) where
  pub ask_block : (length output ≡ 1024 → ⊥) → ask_answer s output ≡ Block
  unfolding ask_answer trickle_answer
  ask_block o = simp (ne_eqb (length output) 1024 o)

  pub ask-early : length output ≡ 1024 → count_of s < body_size (width_of s) → ask_answer s output ≡ Early (count_of s)
  unfolding ask_answer trickle_answer
  ask-early o h = simp (eq-eqb (length output) 1024 o, lt-leb (body_size (width_of s)) (count_of s) h)

  pub ask-done : length output ≡ 1024 → body_size (width_of s) ≤ count_of s → ask_answer s output ≡ Done
  unfolding ask_answer trickle_answer
  ask-done o h = simp (eq-eqb (length output) 1024 o, le-leb (body_size (width_of s)) (count_of s) h)

-- After every refusal, that is after every number but 0, a lent buffer holds what it held.
pub left-refused : {A : Type 0} (a : TrickleAnswer) (new old : A) → (number_of a ≡ 0 → ⊥) → left a new old ≡ old
left-refused = every.left-refused number_of

-- Done is the answer with number 0.
pub number-done : (a : TrickleAnswer) → number_of a ≡ 0 → a ≡ Done
number-done Done e = refl
number-done Width e = absurd (number-apart e)
number-done Block e = absurd (number-apart e)
number-done (Early p) e = absurd (number-apart e)

-- What ask gives and leaves where it is refused, and where it is done.
module _ (s : State) (output : List ℕ) where
  pub refused : {a : TrickleAnswer} → ask_answer s output ≡ a → (number_of a ≡ 0 → ⊥) → (a ≡ ask_answer s output) × (output ≡ ask_leaves s output)
  unfolding ask_leaves
  refused {a} e n = (sym e, sym (ap (λ x. left x (values_of s) output) e ∙ left-refused a (values_of s) output n))

  pub done : {new : List ℕ} → ask_answer s output ≡ Done → new ≡ values_of s → (Done ≡ ask_answer s output) × (new ≡ ask_leaves s output)
  unfolding ask_leaves
  done e f = (sym e, f ∙ sym (ap (λ x. left x (values_of s) output) e))
