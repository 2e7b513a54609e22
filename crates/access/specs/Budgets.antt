-- Access by a list under a budget of words (R46, R47): how many of its lookups are answered, what it gives, and what it
-- leaves in its output.
-- Assumes nothing.
use Rattle.std.specs.Prelude.{Bool, List, ℕ, zero, suc, leb, length, take}
use Rattle.lists.specs.Pick.{pick}
use Rattle.lists.specs.Tab.{over}
use Rattle.places.specs.declared.Answer.{Answer}
use Rattle.places.specs.declared.Answer.TheVariants.{Done}
use Rattle.places.specs.Answers.{is_done, left}
use Rattle.places.specs.Takes.{answer_for}
use Rattle.access.specs.declared.Afforded.{Afforded}
use Rattle.access.specs.declared.Afforded.TheVariants.{Front, Refused}
use Rattle.access.specs.Calls.{list_takes, list_of}
use Rattle.access.specs.Counts.{counts_of_lem, sum_of}

-- This is the greatest of 1, .., n that passes the test, and 0 where none does.
unfoldable pub most : (n : ℕ) (test : ℕ → Bool) → ℕ
most zero test = 0
most (suc n) test = pick (test (suc n)) (suc n) (most n test)

-- The first k lookups of a list read this many words.
unfoldable pub front_words : (t w : ℕ) (indices : List ℕ) (k : ℕ) → ℕ
front_words t w indices k = sum_of (take k (counts_of_lem t w indices))

-- The longest front part of a list whose words are within the budget has this many lookups.
unfoldable pub affordable : (t w : ℕ) (indices : List ℕ) (budget : ℕ) → ℕ
affordable t w indices budget = most (length indices) (λ k. leb (front_words t w indices k) budget)

-- What is given by an answer are the two numbers where it is done, and else the refusal.
abbrev pub afforded : (answer : Answer) (count words : ℕ) → Afforded
afforded a k n = pick (is_done a) (Front k n) (Refused a)

-- The call gives how many lookups it answered and how many words they read, or the refusal, which is that of access by
-- the whole list.
unfoldable pub within_gives : (t w : ℕ) (packed indices output : List ℕ) (budget : ℕ) → Afforded
within_gives t w packed indices output budget =
    let k = affordable t w indices budget in
    afforded (answer_for (list_takes t w packed indices output)) k (front_words t w indices k)

-- The outputs of the affordable front part hold what access by that part alone gives, and the others what they held;
-- after a refusal all of them hold what they held.
unfoldable pub within_leaves : (t w : ℕ) (packed indices output : List ℕ) (budget : ℕ) → List ℕ
within_leaves t w packed indices output budget =
    left (answer_for (list_takes t w packed indices output)) (over 0 (list_of t w packed (take (affordable t w indices budget) indices)) output) output

-- A front part stands for an answer that is done, and a refusal for itself.
abbrev pub answer_of : Afforded → Answer
answer_of (Front k n) = Done
answer_of (Refused a) = a

-- This is how many lookups are answered, and 0 after a refusal.
abbrev pub answered_of : Afforded → ℕ
answered_of (Front k n) = k
answered_of (Refused a) = 0

-- This is how many words they read, and 0 after a refusal.
abbrev pub words_of : Afforded → ℕ
words_of (Front k n) = n
words_of (Refused a) = 0
