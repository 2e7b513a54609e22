-- What the lookup of a file row gives (R97): a value, with how many packed words its bits stand in or without (R98), or
-- a refusal. Then the same of a lookup in one body alone (R93).
-- Assumes nothing.
use Rattle.std.specs.Prelude.{ℕ, ◌+◌, ◌/◌, ◌%◌, List, [], ◌∷◌, length, ◌==◌, nat_le, nat_lt, slice_index, Some, None, Result, Ok, Err}
use Rattle.lists.specs.Pick.{pick}
use Rattle.places.specs.Sizes.{t64}
use Rattle.access.specs.Counts.{count_at}
use Rattle.contents.specs.declared.Entry.{Entry}
use Rattle.contents.specs.declared.FileRefusal.{FileRefusal}
use Rattle.contents.specs.declared.FileRefusal.TheVariants.{Cut, BadEntry, Beyond, Runs}
use Rattle.contents.specs.Answers.{FileTest, file_answer, giving}
use Rattle.contents.specs.Contents.{entry_of, entry_or, has_right_entry}
use Rattle.bodies.specs.Bodies.{block_of, has_good_runs}
use Rattle.files.specs.declared.Row.{Row}
use Rattle.files.specs.Files.{row_at, row_tests}
use Rattle.files.specs.Froms.{body_from}

-- A value is given with a count of packed words, or without.
abbrev pub counted : (v n : ℕ) → Row
counted v n = record { value = v; words = Some n }

abbrev pub uncounted : (v : ℕ) → Row
uncounted v = record { value = v; words = None }

-- After a refusal there is no value, and 0 stands for it.
abbrev pub value_of : Result Row FileRefusal → ℕ
value_of (Ok row) = row.value
value_of (Err refusal) = 0

-- In a block of kind 0 or 1 the value v at a place is given with as many packed words as single access there would
-- count. For kinds 2 and 3, where a value is made of more than its own bits, there is no count.
abbrev pub given : (e : Entry) (place v : ℕ) → Row
given e place v = pick (nat_lt e.kind 2) (counted v (count_at t64 e.width place)) (uncounted v)

-- The lookup of row p gives its value, with its count or without, where the call is done, and else the refusal.
unfoldable pub row_of : (l : List ℕ) (p : ℕ) → Result Row FileRefusal
row_of l p = giving (file_answer (row_tests l p)) (given (entry_of l (p / 1024)) (p % 1024) (row_at l p))

-- Row p is looked up in one body alone, which is that of entry i and is taken to begin at `at`. The file l may be any
-- bytes. These are the tests, in their order: the bytes of the body are all there; entry i is there and right in its
-- edition; row p is of block i; every run index of the body is in range. Nothing else of the file is tested.
abbrev pub row_from_tests : (l : List ℕ) (i at p : ℕ) → List FileTest
row_from_tests l i at p =
    (nat_le (at + (entry_or l i).length) (length l), Err Cut)
    ∷ (has_right_entry l i, Err (BadEntry i))
    ∷ ((p / 1024 == i), Err Beyond)
    ∷ (has_good_runs (entry_or l i) (body_from l i at), Err (Runs i))
    ∷ []

-- Such a lookup gives the value at place p mod 1,024 of the block that the entry and the body stand for, with its count
-- or without, and else the refusal. In a file that the check accepts, where `at` is the place of body i and row p is of
-- block i, it gives what the lookup of row p in the whole file gives: that is a law.
unfoldable pub row_from_lem : (l : List ℕ) (i at p : ℕ) → Result Row FileRefusal
row_from_lem l i at p =
    giving (file_answer (row_from_tests l i at p))
    (given (entry_or l i) (p % 1024) (slice_index (block_of (entry_or l i) (body_from l i at)) (p % 1024)))
