-- How what a call on blocks gives crosses to a program in C or in Rust: the number of the answer is the result, and its
-- place and whatever else the call gives stand in numbers that are lent for them.
-- Assumes nothing.
use Rattle.std.specs.Prelude.{◌≡◌, ℕ}
use Rattle.places.specs.declared.Answer.{Answer}
use Rattle.places.specs.Answers.{number_of, place_of}
use Rattle.access.specs.declared.Listed.{Listed}
use Rattle.access.specs.declared.Afforded.{Afforded}
use Rattle.access.specs.Calls as list
use Rattle.access.specs.Budgets as front

-- The number and the place that are handed over are those of this answer.
pub record Handed (answer : Answer) (number place : ℕ) : Type 0 where
  pub its_number : number ≡ number_of answer
  pub its_place : place ≡ place_of answer

-- Of single access the value and its count of words are handed over too, as three functions read them off what it gives.
pub record SingleHanded {S : Type 0} (answer_of : S → Answer) (value_of words_of : S → ℕ) (single : S) (number value words place : ℕ) : Type 0 where
  pub its_answer : Handed (answer_of single) number place
  pub its_value : value ≡ value_of single
  pub its_words : words ≡ words_of single

-- Of access by a list it is the sum of the words.
pub record ListHanded (listed : Listed) (number words place : ℕ) : Type 0 where
  pub its_answer : Handed (list.answer_of listed) number place
  pub its_words : words ≡ list.words_of listed

-- And under a budget also how many lookups are answered.
pub record FrontHanded (afforded : Afforded) (number answered words place : ℕ) : Type 0 where
  pub its_answer : Handed (front.answer_of afforded) number place
  pub its_answered : answered ≡ front.answered_of afforded
  pub its_words : words ≡ front.words_of afforded
