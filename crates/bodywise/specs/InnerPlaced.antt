-- A refusal of one body with its place. A private step names this; no public contract does.
-- Assumes nothing.
use Rattle.std.specs.Prelude.{ℕ, eqb, Err}
use Rattle.lists.specs.Pick.{pick}
use Rattle.contents.specs.declared.FileRefusal.TheVariants.{Runs}
use Rattle.contents.specs.Answers.{FileAnswer, number_of}

-- The tests of one body know no other, so the place of their 13 is 0; here it is the block. Their 10 is not asked for.
abbrev pub in_block : (i : ℕ) (a : FileAnswer) → FileAnswer
in_block i a = pick (eqb (number_of a) 13) (Err (Runs i)) a
