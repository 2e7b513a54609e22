-- What the calls on a body that trickles in answer (R75): the numbers and places, the answer by a list of tests, and
-- what a call leaves in a lent buffer. The tests of each call stand beside it, in the order of the rule.
-- Assumes nothing.
use Rattle.std.specs.Prelude.{Bool, List, ℕ, eqb}
use Rattle.lists.specs.Tests.{Test, first_refusal}
use Rattle.lists.specs.Pick.{pick}
use Rattle.trickle.specs.declared.TrickleAnswer.{TrickleAnswer}
use Rattle.trickle.specs.declared.TrickleAnswer.TheVariants.{Done, Width, Block, Early}

-- Each case of an answer has a number.
abbrev pub number_of : TrickleAnswer → ℕ
number_of Done = 0
number_of Width = 1
number_of Block = 2
number_of (Early p) = 16

-- With the number a place is returned. It is 0 for every number but 16, whose place is the bytes held so far.
abbrev pub place_of : TrickleAnswer → ℕ
place_of Done = 0
place_of Width = 0
place_of Block = 0
place_of (Early p) = p

-- A call that makes these tests answers with the first refusal of the list, and where every test passes it is done.
unfoldable pub trickle_answer : List (Test TrickleAnswer) → TrickleAnswer
trickle_answer tests = first_refusal Done tests

-- This test says that the call is done, which is number 0.
abbrev pub is_done : TrickleAnswer → Bool
is_done a = eqb (number_of a) 0

-- This is what a lent buffer holds after a call: where the call is done what it should hold, and after a refusal what
-- it held.
abbrev pub left : {A : Type 0} → TrickleAnswer → (new old : A) → A
left a new old = pick (is_done a) new old
