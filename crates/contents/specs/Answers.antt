-- What a call on a column file answers: the numbers and places (R143, R163), the answer by a list of tests, and what a
-- call leaves in a lent buffer (R4). The tests of each call stand beside it, in the order that its rule says, as R90
-- does for the reader; that is not the order of the numbers (R5).
-- Assumes nothing.
use Rattle.std.specs.Prelude.{Bool, List, ℕ, eqb, Result, Ok, Err}
use Rattle.lists.specs.Tests.{Test, first_refusal}
use Rattle.lists.specs.Pick.{pick}
use Rattle.contents.specs.declared.FileRefusal.{FileRefusal}
use Rattle.contents.specs.declared.FileRefusal.TheVariants.{Block, Cut, Edition, BadEntry, Over, Beyond, Runs, Room, Range, Foreign}

-- A call is done, or refused for a reason.
abbrev pub FileAnswer : Type 0
FileAnswer = Result (Unit {0}) FileRefusal

-- Each refusal has a number.
abbrev pub refusal_number : FileRefusal → ℕ
refusal_number Block = 2
refusal_number Cut = 8
refusal_number Edition = 9
refusal_number (BadEntry p) = 10
refusal_number Over = 11
refusal_number Beyond = 12
refusal_number (Runs p) = 13
refusal_number Room = 14
refusal_number (Range p) = 15
refusal_number (Foreign p) = 17

-- With the number a place is returned. It is 0 for every number but 10, whose place is the entry, and 13, 15 and 17,
-- whose place is the block.
abbrev pub refusal_place : FileRefusal → ℕ
refusal_place Block = 0
refusal_place Cut = 0
refusal_place Edition = 0
refusal_place (BadEntry p) = p
refusal_place Over = 0
refusal_place Beyond = 0
refusal_place (Runs p) = p
refusal_place Room = 0
refusal_place (Range p) = p
refusal_place (Foreign p) = p

-- Each answer has a number: that of its refusal, and 0 where the call is done,
abbrev pub number_of : FileAnswer → ℕ
number_of (Ok _) = 0
number_of (Err refusal) = refusal_number refusal

-- and a place: that of its refusal, and 0 where the call is done.
abbrev pub place_of : FileAnswer → ℕ
place_of (Ok _) = 0
place_of (Err refusal) = refusal_place refusal

-- A test of a call on a file stands with the refusal that is given where it fails.
abbrev pub FileTest : Type 0
FileTest = Test FileAnswer

-- A call that makes these tests answers with the first refusal of the list, and where every test passes it is done.
unfoldable pub file_answer : List FileTest → FileAnswer
file_answer tests = first_refusal (Ok tt) tests

-- This test says that the call is done, which is number 0.
abbrev pub is_done : FileAnswer → Bool
is_done a = eqb (number_of a) 0

-- This is what a lent buffer holds after a call: where the call is done what it should hold, and after a refusal what
-- it held.
abbrev pub left : {A : Type 0} → FileAnswer → (new old : A) → A
left a new old = pick (is_done a) new old

-- A call that hands something over hands over this where it is done, and else its refusal.
abbrev pub giving : {A R : Type 0} → (a : Result (Unit {0}) R) (given : A) → Result A R
giving (Ok _) given = Ok given
giving (Err refusal) given = Err refusal

-- Such a call answers this in the terms of the others: that it is done where something is handed over, and a refusal
-- stands for itself.
abbrev pub answer_of : {A R : Type 0} → Result A R → Result (Unit {0}) R
answer_of (Ok given) = Ok tt
answer_of (Err refusal) = Err refusal
