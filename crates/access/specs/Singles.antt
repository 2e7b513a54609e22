-- What the two cases of the single answer stand for, by one definition each (R163): the answer, the value, and how many
-- packed words it stands in.
-- Assumes nothing.
use Rattle.std.specs.Prelude.{ℕ}
use Rattle.places.specs.declared.Answer.{Answer}
use Rattle.places.specs.declared.Answer.TheVariants.{Done}
use Rattle.access.specs.Counts.{no_count}
use Rattle.access.specs.declared.Single.{Single}
use Rattle.access.specs.declared.Single.TheVariants.{Value, Refused}

-- The single answer at any type of element, with its value as a number.
abbrev pub single_number : {A : Type 0} → (number : A → ℕ) → Single A → Single ℕ
single_number number (Value v n) = Value (number v) n
single_number number (Refused a) = Refused a

-- A value stands for an answer that is done, and a refusal for itself.
abbrev pub answer_of : {A : Type 0} → Single A → Answer
answer_of (Value v n) = Done
answer_of (Refused a) = a

-- After a refusal there is no value, and 0 stands for it.
abbrev pub value_of : Single ℕ → ℕ
value_of (Value v n) = v
value_of (Refused a) = 0

-- After a refusal there is no count, and `no_count` stands for it.
abbrev pub words_of : {A : Type 0} → Single A → ℕ
words_of (Value v n) = n
words_of (Refused a) = no_count
