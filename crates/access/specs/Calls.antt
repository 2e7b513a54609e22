-- What access to one place and access by a list take and give, and what the second leaves in its output, for every
-- input (R37, R38, R40, R42, R44). What a call answers is `answer_for` what it takes. The counts stand in Counts.
-- Assumes nothing.
use Rattle.std.specs.Prelude.{List, [], ◌∷◌, ℕ, length, get_or}
use Rattle.lists.specs.Pick.{pick}
use Rattle.lists.specs.Tab.{tab}
use Rattle.places.specs.declared.Answer.{Answer}
use Rattle.places.specs.declared.Answer.TheVariants.{Done}
use Rattle.places.specs.Answers.{is_done, left}
use Rattle.places.specs.Takes.{Taken, a_width, a_packed, two_lists, an_index, an_index_list, answer_for}
use Rattle.packing.specs.Packed.{value_at}
use Rattle.access.specs.declared.Listed.{Listed}
use Rattle.access.specs.declared.Listed.TheVariants.{Words, Refused}
use Rattle.access.specs.Counts.{count_at, list_words}

-- Single access takes a width, a packed block and an index.
abbrev pub single_takes : (t w : ℕ) (packed : List ℕ) (index : ℕ) → List Taken
single_takes t w packed index = a_width t w ∷ a_packed t w packed ∷ an_index index ∷ []

-- The single answer is the value and its count of words where the call is done, and else the refusal. The type of the
-- answer, `Single`, has these two cases; what they stand for is said in Singles.
abbrev pub single : {S : Type 0} → (value : (v count : ℕ) → S) (refused : Answer → S) (answer : Answer) (v count : ℕ) → S
single value refused a v n = pick (is_done a) (value v n) (refused a)

-- Single access gives this.
unfoldable pub single_of : {S : Type 0} → (value : (v count : ℕ) → S) (refused : Answer → S) (t w : ℕ) (packed : List ℕ) (index : ℕ) → S
single_of value refused t w packed index =
    single value refused (answer_for (single_takes t w packed index)) (value_at t w packed index) (count_at t w index)

-- Access by a list takes a width, a packed block, and the list of indices with its output.
abbrev pub list_takes : (t w : ℕ) (packed indices output : List ℕ) → List Taken
list_takes t w packed indices output = a_width t w ∷ a_packed t w packed ∷ two_lists indices output ∷ an_index_list indices ∷ []

-- Each entry of the output is the value at its index.
unfoldable pub list_of : (t w : ℕ) (packed indices : List ℕ) → List ℕ
list_of t w packed indices = tab (length indices) (λ i. value_at t w packed (get_or indices i 0))

-- What is given by an answer are the words where it is done, and else the refusal.
abbrev pub listed : (answer : Answer) (words : ℕ) → Listed
listed a n = pick (is_done a) (Words n) (Refused a)

-- Access by a list gives the words of all its lookups, or the refusal.
unfoldable pub list_gives : (t w : ℕ) (packed indices output : List ℕ) → Listed
list_gives t w packed indices output = listed (answer_for (list_takes t w packed indices output)) (list_words t w indices)

-- A sum stands for an answer that is done, and a refusal for itself.
abbrev pub answer_of : Listed → Answer
answer_of (Words n) = Done
answer_of (Refused a) = a

-- After a refusal there is no sum, and 0 stands for it.
abbrev pub words_of : Listed → ℕ
words_of (Words n) = n
words_of (Refused a) = 0

-- Access by a list leaves this in its output.
unfoldable pub list_leaves : (t w : ℕ) (packed indices output : List ℕ) → List ℕ
list_leaves t w packed indices output =
    left (answer_for (list_takes t w packed indices output)) (list_of t w packed indices) output
