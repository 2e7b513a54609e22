-- The column file: where a body stands (R83), the blocks (R84) and the rows (R85) of a file, and what the check, one
-- block out and the value at a file row answer and leave (R89, R90). `l` is the file, a list of bytes.
-- Assumes nothing.
use Rattle.std.specs.Prelude.{◌≡◌, ℕ, ◌*◌, ◌/◌, ◌%◌, Bool, true, List, [], ◌∷◌, ◌++◌, length, take, drop, ◌==◌, nat_lt, slice_index, Ok, Err}
use Rattle.lists.specs.Tests.{long}
use Rattle.lists.specs.Pick.{pick}
use Rattle.lists.specs.Tab.{tab}
use Rattle.lists.specs.Search.{first_bad}
use Rattle.contents.specs.declared.FileRefusal.TheVariants.{Beyond, Block, Range, Runs}
use Rattle.contents.specs.Answers.{FileTest, file_answer, left}
use Rattle.contents.specs.Contents.{edition, count, entry_of, range_of, body_start, contents_tests}
use Rattle.bodies.specs.Bodies.{block_of, has_good_runs}
use Rattle.bodies.specs.Ranges.{is_range}

-- Body i stands behind the contents and the bodies before it, and has as many bytes as its entry says.
unfoldable pub body_of : (l : List ℕ) (i : ℕ) → List ℕ
body_of l i = take (entry_of l i).length (drop (body_start l i) l)

-- Block i is what its entry and its body stand for.
unfoldable pub block_in : (l : List ℕ) (i : ℕ) → List ℕ
block_in l i = block_of (entry_of l i) (body_of l i)

-- A file has 1,024 rows for each block,
abbrev pub row_count : List ℕ → ℕ
row_count l = 1024 * count l

-- and row p is place p mod 1,024 of block p / 1,024.
unfoldable pub row_at : (l : List ℕ) (p : ℕ) → ℕ
row_at l p = slice_index (block_in l (p / 1024)) (p % 1024)

-- These are the rows of a file.
unfoldable pub rows_of : (l : List ℕ) → List ℕ
rows_of l = tab (row_count l) (row_at l)

-- This is the lowest block that has a run index out of range, and the count where there is none.
unfoldable pub bad_runs : List ℕ → ℕ
bad_runs l = first_bad (count l) (λ i. has_good_runs (entry_of l i) (body_of l i))

-- In edition 2 the range that entry i says has to be the true one of its block; in edition 1 it says none.
unfoldable pub has_true_range : (l : List ℕ) (i : ℕ) → Bool
has_true_range l i = pick (edition l == 2) (is_range (range_of l i) (block_in l i)) true

-- This is the lowest block whose range is not the true one, and the count where there is none.
unfoldable pub bad_range : List ℕ → ℕ
bad_range l = first_bad (count l) (has_true_range l)

-- The tests of a whole file are, in the order of R90, those of its contents against its length, then that of the run
-- indices, and then that of the ranges.
abbrev pub file_tests : (l : List ℕ) → List FileTest
file_tests l =
    contents_tests l (length l)
    ++ (((bad_runs l == count l), Err (Runs (bad_runs l)))
    ∷ ((bad_range l == count l), Err (Range (bad_range l)))
    ∷ [])

-- Up to the run indices they are these: in edition 1 there are no more.
abbrev pub runs_tests : (l : List ℕ) → List FileTest
runs_tests l = contents_tests l (length l) ++ (((bad_runs l == count l), Err (Runs (bad_runs l))) ∷ [])

-- A file is taken where none of its tests fails.
abbrev pub FileTaken : (l : List ℕ) → Type 0
FileTaken l = file_answer (file_tests l) ≡ Ok tt

-- One block out tests its output first, and the number of the block last.
abbrev pub block_out_tests : (l : List ℕ) (b : ℕ) (output : List ℕ) → List FileTest
block_out_tests l b output = (long 1024 output, Err Block) ∷ (file_tests l ++ ((nat_lt b (count l), Err Beyond) ∷ []))

-- One block out leaves this in its output.
unfoldable pub block_out_leaves : (l : List ℕ) (b : ℕ) (output : List ℕ) → List ℕ
block_out_leaves l b output = left (file_answer (block_out_tests l b output)) (block_in l b) output

-- The lookup of a row tests the number of the row last.
abbrev pub row_tests : (l : List ℕ) (p : ℕ) → List FileTest
row_tests l p = file_tests l ++ ((nat_lt p (row_count l), Err Beyond) ∷ [])
