-- How what a call on a column file gives crosses to a program in C or in Rust, as `Handed` has it for the calls on
-- blocks.
-- Assumes nothing.
use Rattle.std.specs.Prelude.{◌≡◌, ℕ, Result, Ok, Err}
use Rattle.std.specs.Option.{unwrap_or}
use Rattle.access.specs.Counts.{no_count}
use Rattle.contents.specs.declared.Entry.{Entry}
use Rattle.contents.specs.declared.FileRefusal.{FileRefusal}
use Rattle.contents.specs.declared.Range.{Range}
use Rattle.contents.specs.Answers.{FileAnswer, number_of, place_of, answer_of}
use Rattle.bodywise.specs.declared.Body.{Body}
use Rattle.files.specs.declared.Row.{Row}
use Rattle.files.specs.Rows as row
use Rattle.writer.specs.Writer as writer
use Rattle.renumber.specs.declared.RenumberRefusal.{RenumberRefusal}
use Rattle.renumber.specs.declared.Renumbered.{Renumbered}
use Rattle.renumber.specs.Renumber as renumber
use Rattle.search.specs.declared.Found.{Found}
use Rattle.search.specs.Search as search
use Rattle.compare.specs.Changes as changes

-- The number and the place that are handed over are those of this answer.
pub record FileHanded (answer : FileAnswer) (number place : ℕ) : Type 0 where
  pub its_number : number ≡ number_of answer
  pub its_place : place ≡ place_of answer

-- A program in C or in Rust is handed one number for the count of words, so the largest number of 64 bits stands for a
-- count where there is none: for a value of a block of kind 2 or 3, and after a refusal.
abbrev pub row_words_lem : Result Row FileRefusal → ℕ
row_words_lem (Ok row) = unwrap_or row.words no_count
row_words_lem (Err refusal) = no_count

-- Of the lookup of a row the value and its count of words are handed over too.
pub record RowHanded (found : Result Row FileRefusal) (number value words place : ℕ) : Type 0 where
  pub its_answer : FileHanded (answer_of found) number place
  pub its_value : value ≡ row.value_of found
  pub its_words : words ≡ row_words_lem found

-- Of the writing of a file it is its length.
pub record WrittenHanded (written : Result ℕ FileRefusal) (number length place : ℕ) : Type 0 where
  pub its_answer : FileHanded (answer_of written) number place
  pub its_length : length ≡ writer.length_of written

-- Of a renumbering it is the new file's length and how many rows changed. Its answers are more than those of a file.
pub record RenumberedHanded (result : Result Renumbered RenumberRefusal) (number length changed place : ℕ) : Type 0 where
  pub its_number : number ≡ renumber.number_of (answer_of result)
  pub its_place : place ≡ renumber.place_of (answer_of result)
  pub its_length : length ≡ renumber.length_of result
  pub its_changed : changed ≡ renumber.changed_of result

-- Of a search it is how many rows were found, and how many blocks were opened for it.
pub record FoundHanded (result : Result Found FileRefusal) (number found opened place : ℕ) : Type 0 where
  pub its_answer : FileHanded (answer_of result) number place
  pub its_found : found ≡ search.rows_found result
  pub its_opened : opened ≡ search.blocks_opened result

-- Of the comparison of two blocks it is how many places differ.
pub record ComparedHanded (compared : Result ℕ FileRefusal) (number count place : ℕ) : Type 0 where
  pub its_answer : FileHanded (answer_of compared) number place
  pub its_count : count ≡ changes.count_of compared

-- An entry is handed over field by field.
pub record EntryHanded (e : Entry) (kind width zero length reference : ℕ) : Type 0 where
  pub its_kind : kind ≡ e.kind
  pub its_width : width ≡ e.width
  pub its_zero : zero ≡ e.zero
  pub its_length : length ≡ e.length
  pub its_reference : reference ≡ e.reference

-- And so is a range.
pub record RangeHanded (r : Range) (smallest largest : ℕ) : Type 0 where
  pub its_smallest : smallest ≡ r.smallest
  pub its_largest : largest ≡ r.largest

-- Of a body of the walk over a file its number, where it begins and how many bytes it has are handed over. The rest of
-- its entry is asked for by its number.
pub record BodyHanded (b : Body) (number start length : ℕ) : Type 0 where
  pub its_number : number ≡ b.number
  pub its_start : start ≡ b.at
  pub its_length : length ≡ b.entry.length
