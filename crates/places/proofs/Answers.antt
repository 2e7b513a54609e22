-- What is given and left by an answer: of a call that is done, and of one that is refused. And a list of tests that all
-- pass.
-- Assumes nothing.
use mathlib.Core.Bool.{Bool, true, false}
use mathlib.Core.List.{List, ◌∷◌, map}
use mathlib.Core.Path.{◌≡◌, refl, sym, ap, ◌∙◌}
use Prim.Native.Nat.{ℕ, suc}
use native.Mathlib.Omega.{arith}
use Rattle.lists.specs.Pick.{pick}
use Rattle.lists.proofs.Answers as every
use Rattle.places.specs.declared.Answer.{Answer}
use Rattle.places.specs.declared.Answer.TheVariants.{Done, Width, Block, Packed, Base, Lists, Index, Dictionary}
use Rattle.places.specs.Answers.{number_of, is_done, left}
use Rattle.places.specs.Takes.{Taken, a_width, a_block, a_packed, a_base, two_lists, an_index, an_index_list, dictionary_indices, tested, answer_for}

pub done : (a : Answer) (z new old : List ℕ) → a ≡ Done → z ≡ new → (Done ≡ a) × (z ≡ left a new old)
done a z new old e f = (sym e, f ∙ sym (ap (λ b. left b new old) e))

-- After every refusal, that is after every number but 0, a lent buffer holds what it held.
pub left-refused : {A : Type 0} (a : Answer) (new old : A) → (number_of a ≡ 0 → ⊥) → left a new old ≡ old
left-refused = every.left-refused number_of

-- the number of a refusal is not that of a call that is done
pub number-apart : {n : ℕ} → suc n ≡ 0 → ⊥
number-apart e = omega arith

-- Done is the answer with number 0.
pub number-done : (a : Answer) → number_of a ≡ 0 → a ≡ Done
number-done Done e = refl
number-done Width e = absurd (number-apart e)
number-done Block e = absurd (number-apart e)
number-done Packed e = absurd (number-apart e)
number-done Base e = absurd (number-apart e)
number-done Lists e = absurd (number-apart e)
number-done (Index p) e = absurd (number-apart e)
number-done (Dictionary p) e = absurd (number-apart e)

-- What is given by an answer: after a refusal what stands for the refusal, and where the call is done the other.
module _ {S : Type 0} (given : S) (refused : Answer → S) (a b : Answer) (e : a ≡ b) where
  pub by_refusal : (number_of a ≡ 0 → ⊥) → refused a ≡ pick (is_done b) given (refused b)
  by_refusal = every.by_refusal number_of given refused a b e

  pub by_done : number_of a ≡ 0 → given ≡ pick (is_done b) given (refused b)
  by_done = every.by_done number_of given refused a b e

-- What is read off it: the answer, where the one stands for an answer that is done and the other for the refusal,
module _ {S : Type 0} (given : S) (refused : Answer → S) where
  pub says_answer : (read : S → Answer) → read given ≡ Done → ((a : Answer) → read (refused a) ≡ a)
      → (a : Answer) → read (pick (is_done a) given (refused a)) ≡ a
  says_answer = every.says_answer number_of Done number-done given refused

  -- and a number, where each refusal has the same.
  pub says_number : (read : S → ℕ) (none : ℕ) → ((a : Answer) → read (refused a) ≡ none)
      → (a : Answer) → read (pick (is_done a) given (refused a)) ≡ left a (read given) none
  says_number read none same a = go (is_done a)
    where
      go : (b : Bool) → read (pick b given (refused a)) ≡ pick b (read given) none
      go true = refl
      go false = same a

-- No refusal of the table is Done,
no-refusal : (x : Taken) → (tested x).1 ≡ Done → ⊥
no-refusal (a_width t w) e = number-apart (ap number_of e)
no-refusal (a_block values) e = number-apart (ap number_of e)
no-refusal (a_packed t w words) e = number-apart (ap number_of e)
no-refusal (a_base t starts) e = number-apart (ap number_of e)
no-refusal (two_lists list output) e = number-apart (ap number_of e)
no-refusal (an_index i) e = number-apart (ap number_of e)
no-refusal (an_index_list list) e = number-apart (ap number_of e)
no-refusal (dictionary_indices dictionary list) e = number-apart (ap number_of e)

-- so where all that a call takes passes, the first thing does, and so do the others.
pub first_passes : (x : Taken) (xs : List Taken) → answer_for (x ∷ xs) ≡ Done → ((tested x).0 ≡ true) × (answer_for xs ≡ Done)
unfolding answer_for
first_passes x xs e = every.first-passed Done (tested x) (map tested xs) (no-refusal x) e
