-- What the two cases of the single answer stand for, by one definition each (R163): the answer, the value, and how many
-- packed words its bits come from. And the single answer over elements, with the number of its element for its value.
-- Assumes nothing.
use Rattle.std.specs.Prelude.{ℕ}
use Rattle.places.specs.declared.Answer.{Answer}
use Rattle.places.specs.declared.Answer.TheVariants.{Done}
use Rattle.plain.specs.Calls.{no_count}
use Rattle.plain.specs.declared.Single.{Single}
use Rattle.plain.specs.declared.Single.TheVariants.{Value, Refused}

-- The value of a single answer becomes its number, and a refusal stays. Where an element is its number, as of u8, u16,
-- u32 and u64, this changes nothing: that is a law.
abbrev pub single_number : {E : Type 0} → (number : E → ℕ) → Single E → Single ℕ
single_number number (Value v n) = Value (number v) n
single_number number (Refused a) = Refused a

-- A value stands for an answer that is done, and a refusal for itself.
abbrev pub answer_of : {E : Type 0} → Single E → Answer
answer_of (Value v n) = Done
answer_of (Refused a) = a

-- After a refusal there is no value, and 0 stands for it.
abbrev pub value_of : Single ℕ → ℕ
value_of (Value v n) = v
value_of (Refused a) = 0

-- After a refusal there is no count, and `no_count` stands for it.
abbrev pub words_of : {E : Type 0} → Single E → ℕ
words_of (Value v n) = n
words_of (Refused a) = no_count
