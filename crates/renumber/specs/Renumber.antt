-- What the renumbering of a column file answers and leaves (R132 to R135). `l` is the file, a list of bytes; pair i is
-- the old number and the new number at place i, and `order` has the places of the pairs by rising new number.
-- Assumes nothing.
use Rattle.std.specs.Prelude.{Bool, List, [], ◌∷◌, map, ℕ, eqb, leb, length, Result, Ok, Err}
use Rattle.lists.specs.Passing.{failing_from}
use Rattle.lists.specs.Pick.{pick, both}
use Rattle.lists.specs.Search.{first_bad}
use Rattle.lists.specs.Tab.{over}
use Rattle.lists.specs.Tests.{Test, first_refusal}
use Rattle.contents.specs.declared.FileRefusal.TheVariants.{Room}
use Rattle.contents.specs.Answers as Answers
use Rattle.contents.specs.Answers.{FileAnswer, file_answer, giving}
use Rattle.files.specs.Files.{row_count, row_at, rows_of, file_tests}
use Rattle.writer.specs.Writer.{file_of}
use Rattle.renumber.specs.declared.RenumberRefusal.{RenumberRefusal}
use Rattle.renumber.specs.declared.RenumberRefusal.TheVariants.{File, Lengths, Unrising, Disordered, Twice, Taken}
use Rattle.renumber.specs.declared.Renumbered.{Renumbered}
use Rattle.renumber.specs.Pairs.{renumbered, is_free, unrising_at, disordered_at, twice_at}

-- A renumbering is done, or refused for a reason.
abbrev pub RenumberAnswer : Type 0
RenumberAnswer = Result (Unit {0}) RenumberRefusal

-- Each refusal has a number: that of the file's own refusal, or one of ours.
abbrev pub refusal_number : RenumberRefusal → ℕ
refusal_number (File r) = Answers.refusal_number r
refusal_number Lengths = 18
refusal_number (Unrising p) = 19
refusal_number (Disordered p) = 20
refusal_number (Twice p) = 21
refusal_number (Taken p) = 22

-- With the number a place is returned: that of the file's own refusal, of 19 the place of the old numbers, of 20 that of
-- the order, of 21 that of the new numbers, and of 22 the row of the file.
abbrev pub refusal_place : RenumberRefusal → ℕ
refusal_place (File r) = Answers.refusal_place r
refusal_place Lengths = 0
refusal_place (Unrising p) = p
refusal_place (Disordered p) = p
refusal_place (Twice p) = p
refusal_place (Taken p) = p

-- Each answer has a number: that of its refusal, and 0 where the call is done,
abbrev pub number_of : RenumberAnswer → ℕ
number_of (Ok _) = 0
number_of (Err refusal) = refusal_number refusal

-- and a place: that of its refusal, and 0 where the call is done.
abbrev pub place_of : RenumberAnswer → ℕ
place_of (Ok _) = 0
place_of (Err refusal) = refusal_place refusal

-- This is the file's own answer, as a renumbering gives it.
abbrev pub from_file : FileAnswer → RenumberAnswer
from_file (Ok _) = Ok tt
from_file (Err refusal) = Err (File refusal)

-- The rows of the new file are those of the old one, each renumbered once.
unfoldable pub new_rows : (old new l : List ℕ) → List ℕ
new_rows old new l = map (renumbered old new) (rows_of l)

-- The new file is the one that the writer gives for these rows.
abbrev pub new_file : (old new l : List ℕ) → List ℕ
new_file old new l = file_of (new_rows old new l)

-- These are the rows whose number changes, rising.
unfoldable pub changed_rows : (old new l : List ℕ) → List ℕ
changed_rows old new l = failing_from 0 (row_count l) (λ p. eqb (row_at l p) (renumbered old new (row_at l p)))

-- This is the lowest row whose number is not listed and stands among the new numbers, and the count of rows where there
-- is none.
unfoldable pub taken_at : (old new l : List ℕ) → ℕ
taken_at old new l = first_bad (row_count l) (λ p. is_free old new (row_at l p))

-- The three lists are of one length, the old numbers rise, the order has the places of the pairs by rising new number,
-- and no new number stands twice.
abbrev pub list_tests : (old new order : List ℕ) → List (Test RenumberAnswer)
list_tests old new order =
    (both (eqb (length new) (length old)) (eqb (length order) (length old)), Err Lengths)
    ∷ (eqb (unrising_at old) (length old), Err (Unrising (unrising_at old)))
    ∷ (eqb (disordered_at new order) (length order), Err (Disordered (disordered_at new order)))
    ∷ (eqb (twice_at new) (length new), Err (Twice (twice_at new)))
    ∷ []

-- This is the answer to the lists alone.
unfoldable pub list_answer : (old new order : List ℕ) → RenumberAnswer
list_answer old new order = first_refusal (Ok tt) (list_tests old new order)

-- This test says that an answer refuses nothing, which is number 0.
abbrev pub is_done : RenumberAnswer → Bool
is_done a = eqb (number_of a) 0

-- The tests of the call are those of the reader, then those of the lists, then that no row becomes one with another
-- number, and then whether the output has room for the new file.
abbrev pub renumber_tests : (l old new order output : List ℕ) → List (Test RenumberAnswer)
renumber_tests l old new order output =
    (Answers.is_done (file_answer (file_tests l)), from_file (file_answer (file_tests l)))
    ∷ (is_done (list_answer old new order), list_answer old new order)
    ∷ (eqb (taken_at old new l) (row_count l), Err (Taken (taken_at old new l)))
    ∷ (leb (length (new_file old new l)) (length output), Err (File Room))
    ∷ []

-- This is the answer of the call.
unfoldable pub renumber_answer : (l old new order output : List ℕ) → RenumberAnswer
renumber_answer l old new order output = first_refusal (Ok tt) (renumber_tests l old new order output)

-- So long is the file that was written, and so many rows changed.
abbrev pub sizes : (n k : ℕ) → Renumbered
sizes n k = record { length = n; changed = k }

-- A call with this answer gives the new file's length and how many rows change, or the refusal,
abbrev pub given_by : (a : RenumberAnswer) (file : List ℕ) (changed : ℕ) → Result Renumbered RenumberRefusal
given_by a file changed = giving a (sizes (length file) changed)

unfoldable pub renumbered_of : (l old new order output : List ℕ) → Result Renumbered RenumberRefusal
renumbered_of l old new order output =
    given_by (renumber_answer l old new order output) (new_file old new l) (length (changed_rows old new l))

-- and leaves the new file at the front of the output; the bytes behind it stay.
abbrev pub left_by : (a : RenumberAnswer) (file output : List ℕ) → List ℕ
left_by a file output = pick (is_done a) (over 0 file output) output

unfoldable pub renumber_leaves : (l old new order output : List ℕ) → List ℕ
renumber_leaves l old new order output = left_by (renumber_answer l old new order output) (new_file old new l) output

-- After a refusal nothing is written, and 0 stands for the length
abbrev pub length_of : Result Renumbered RenumberRefusal → ℕ
length_of (Ok given) = given.length
length_of (Err refusal) = 0

-- and for how many rows changed.
abbrev pub changed_of : Result Renumbered RenumberRefusal → ℕ
changed_of (Ok given) = given.changed
changed_of (Err refusal) = 0
