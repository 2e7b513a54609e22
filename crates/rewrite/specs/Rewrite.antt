-- What the rewrite of a column file answers and leaves (R112 to R114). `l` is the file, a list of bytes.
-- Assumes nothing.
use Rattle.std.specs.Prelude.{List, [], ◌∷◌, ◌++◌, ℕ, leb, length, Result, Err}
use Rattle.contents.specs.declared.FileRefusal.{FileRefusal}
use Rattle.contents.specs.declared.FileRefusal.TheVariants.{Room}
use Rattle.contents.specs.Answers.{FileTest, file_answer}
use Rattle.files.specs.Files.{rows_of, file_tests}
use Rattle.writer.specs.Writer.{file_of, given_by, left_by}

-- The new file is the one that the writer gives for the rows of the old one.
abbrev pub new_file : (l : List ℕ) → List ℕ
new_file l = file_of (rows_of l)

-- The tests are those of the reader, and behind them whether the output has room for the new file.
abbrev pub rewrite_tests : (l output : List ℕ) → List FileTest
rewrite_tests l output = file_tests l ++ ((leb (length (new_file l)) (length output), Err Room) ∷ [])

-- The call gives the new file's length, or the refusal,
unfoldable pub rewritten_of : (l output : List ℕ) → Result ℕ FileRefusal
rewritten_of l output = given_by (file_answer (rewrite_tests l output)) (new_file l)

-- and leaves the new file at the front of the output; the bytes behind it stay.
unfoldable pub rewrite_leaves : (l output : List ℕ) → List ℕ
rewrite_leaves l output = left_by (file_answer (rewrite_tests l output)) (new_file l) output
