-- The refusal of one entry as the refusal of its list. The contract of a private step names it; no public contract
-- does.
-- Assumes nothing.
use Rattle.std.specs.Prelude.{ℕ, eqb}
use Rattle.lists.specs.Pick.{pick}
use Rattle.places.specs.declared.Answer.{Answer}
use Rattle.places.specs.declared.Answer.TheVariants.{Index}
use Rattle.places.specs.Answers.{number_of}

-- What entry i answers, the list answers: a bad index, number 6, has the entry's place in the list, and everything else
-- stands as it is.
abbrev pub at_entry : (answer : Answer) (i : ℕ) → Answer
at_entry answer i = pick (eqb (number_of answer) 6) (Index i) answer
