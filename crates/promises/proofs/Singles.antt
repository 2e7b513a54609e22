-- A call that gives a value or a refusal: what is read off it. The answer of single access is the table's, and the
-- value is the one at the index where the call is done, and else 0. It also has the count of its words, and of a
-- refused call none.
-- Assumes nothing.
use mathlib.Core.List.{List}
use mathlib.Core.Path.{◌≡◌, refl}
use Prim.Native.Nat.{ℕ}
use Rattle.places.specs.declared.Answer.{Answer}
use Rattle.places.specs.declared.Answer.TheVariants.{Done}
use Rattle.places.specs.Answers.{left}
use Rattle.places.specs.Takes.{answer_for}
use Rattle.packing.specs.Packed.{value_at}
use Rattle.access.specs.Calls.{single_takes, single_of}
use Rattle.access.specs.Counts.{count_at, no_count}
use Rattle.access.specs.Singles as singles
use Rattle.access.specs.declared.Single.TheVariants.{Value, Refused}
use Rattle.access.proofs.Accesses.{single_answers, single_values, single_counts}

-- This is what single access gives. Its answer is the table's. Where it is done its value and its count are those at
-- the index. After a refusal 0 stands for the value, and `no_count` for the count.
pub record Read (answer : Answer) (value count t w : ℕ) (packed : List ℕ) (index : ℕ) : Type 0 where
  pub answers : answer ≡ answer_for (single_takes t w packed index)
  pub gives : value ≡ left (answer_for (single_takes t w packed index)) (value_at t w packed index) 0
  pub counts : count ≡ left (answer_for (single_takes t w packed index)) (count_at t w index) no_count

-- So it is however the two cases are read, as long as each stands for what it holds,
module _ {S : Type 0} (value : ℕ → ℕ → S) (refused : Answer → S) (answer_of : S → Answer) (value_of words_of : S → ℕ) where
  read : ((v n : ℕ) → answer_of (value v n) ≡ Done) → ((a : Answer) → answer_of (refused a) ≡ a)
      → ((v n : ℕ) → value_of (value v n) ≡ v) → ((a : Answer) → value_of (refused a) ≡ 0)
      → ((v n : ℕ) → words_of (value v n) ≡ n) → ((a : Answer) → words_of (refused a) ≡ no_count)
      → (t w : ℕ) (packed : List ℕ) (index : ℕ)
      → let given = single_of value refused t w packed index in Read (answer_of given) (value_of given) (words_of given) t w packed index
  read done refuses holds zero counted none t w packed index =
      record {
        answers = single_answers value refused t w packed index answer_of done refuses;
        gives = single_values value refused t w packed index value_of holds zero;
        counts = single_counts value refused t w packed index words_of counted none;
      }

-- and with the reading that access's specs/ give of the two cases, at each size.
pub single-reads : (t w : ℕ) (packed : List ℕ) (index : ℕ)
    → let given = single_of Value Refused t w packed index in
    Read (singles.answer_of given) (singles.value_of given) (singles.words_of given) t w packed index
single-reads =
    read Value Refused singles.answer_of singles.value_of singles.words_of (λ _ _. refl) (λ _. refl) (λ _ _. refl) (λ _. refl) (λ _ _. refl) (λ _. refl)
