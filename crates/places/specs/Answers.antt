-- What a call answers: the numbers 0 to 7 and their places (R143), by one definition each (R163), and what a call
-- leaves in a lent buffer (R4). The table's tests stand in Takes.
-- Assumes nothing.
use Rattle.std.specs.Prelude.{Bool, ℕ, eqb}
use Rattle.lists.specs.Pick.{pick}
use Rattle.places.specs.declared.Answer.{Answer}
use Rattle.places.specs.declared.Answer.TheVariants.{Done, Width, Block, Packed, Base, Lists, Index, Dictionary}

-- Each case of an answer has a number of the table.
abbrev pub number_of : Answer → ℕ
number_of Done = 0
number_of Width = 1
number_of Block = 2
number_of Packed = 3
number_of Base = 4
number_of Lists = 5
number_of (Index p) = 6
number_of (Dictionary p) = 7

-- With the number a place is returned. It is 0 for every number but 6 and 7, which carry theirs.
abbrev pub place_of : Answer → ℕ
place_of Done = 0
place_of Width = 0
place_of Block = 0
place_of Packed = 0
place_of Base = 0
place_of Lists = 0
place_of (Index p) = p
place_of (Dictionary p) = p

-- This test says that the call is done, which is number 0.
abbrev pub is_done : Answer → Bool
is_done a = eqb (number_of a) 0

-- This is what a lent buffer holds after a call: where the call is done what it should hold, and after a refusal what
-- it held.
abbrev pub left : {A : Type 0} → Answer → (new old : A) → A
left a new old = pick (is_done a) new old
