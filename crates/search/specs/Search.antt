-- The search of a column file by value (R107): which blocks are opened (R108), which rows are listed, and what the call
-- answers and leaves (R110). `l` is the file, and `low` and `high` are the bounds, both included.
-- Assumes nothing.
use Rattle.std.specs.Prelude.{ℕ, ◌/◌, min, max, Bool, true, List, [], ◌∷◌, ◌++◌, length, ◌==◌, nat_le, Result, Ok, Err}
use Rattle.lists.specs.Pick.{pick, both, either}
use Rattle.lists.specs.Tab.{over}
use Rattle.lists.specs.Search.{first_bad}
use Rattle.lists.specs.Passing.{passing}
use Rattle.contents.specs.declared.FileRefusal.{FileRefusal}
use Rattle.contents.specs.declared.FileRefusal.TheVariants.{Range as FalseRange, Room, Runs}
use Rattle.contents.specs.declared.Range.{Range}
use Rattle.contents.specs.Answers.{FileTest, file_answer, left, giving}
use Rattle.contents.specs.Contents.{edition, count, entry_of, range_of, contents_tests}
use Rattle.bodies.specs.Bodies.{has_good_runs}
use Rattle.files.specs.Files.{body_of, has_true_range, row_count, row_at}
use Rattle.search.specs.declared.Found.{Found}

-- This test says that a value lies between the bounds.
abbrev pub between : (low high v : ℕ) → Bool
between low high v = both (nat_le low v) (nat_le v high)

-- This test says that a range and the bounds have a number in common: the higher of the two lower ends is not above the
-- lower of the two upper ends.
unfoldable pub meets : (r : Range) (low high : ℕ) → Bool
meets r low high = nat_le (max r.smallest low) (min r.largest high)

-- Block i is opened where the range that its entry says and the bounds have a number in common, or the edition is 1.
unfoldable pub opens : (l : List ℕ) (low high i : ℕ) → Bool
opens l low high i = either (edition l == 1) (meets (range_of l i) low high)

-- These are the blocks that are opened.
unfoldable pub opened : (l : List ℕ) (low high : ℕ) → List ℕ
opened l low high = passing 0 (count l) (opens l low high)

-- Row p is listed where its block is opened and its value lies between the bounds,
unfoldable pub listed : (l : List ℕ) (low high p : ℕ) → Bool
listed l low high p = both (opens l low high (p / 1024)) (between low high (row_at l p))

-- so these are the rows that the search lists.
unfoldable pub found : (l : List ℕ) (low high : ℕ) → List ℕ
found l low high = passing 0 (row_count l) (listed l low high)

-- This is the lowest opened block that has a run index out of range, and the count where there is none.
unfoldable pub bad_runs_in : (l : List ℕ) (low high : ℕ) → ℕ
bad_runs_in l low high = first_bad (count l) (λ i. pick (opens l low high i) (has_good_runs (entry_of l i) (body_of l i)) true)

-- This is the lowest opened block whose range is not the true one, and the count where there is none.
unfoldable pub bad_range_in : (l : List ℕ) (low high : ℕ) → ℕ
bad_range_in l low high = first_bad (count l) (λ i. pick (opens l low high i) (has_true_range l i) true)

-- The tests of the blocks that are opened are that of their run indices and that of their ranges.
abbrev pub opened_tests : (l : List ℕ) (low high : ℕ) → List FileTest
opened_tests l low high =
    ((bad_runs_in l low high == count l), Err (Runs (bad_runs_in l low high)))
    ∷ ((bad_range_in l low high == count l), Err (FalseRange (bad_range_in l low high)))
    ∷ []

-- The search makes the tests of the contents as the reader does, then those of the blocks that it opens, and then wants
-- room for the rows.
abbrev pub search_tests : (l : List ℕ) (low high : ℕ) (rows : List ℕ) → List FileTest
search_tests l low high rows =
    contents_tests l (length l) ++ (opened_tests l low high ++ ((nat_le (length (found l low high)) (length rows), Err Room) ∷ []))

-- So many rows were listed, and so many blocks opened for them.
abbrev pub counts : (rows opened : ℕ) → Found
counts n k = record { rows = n; opened = k }

-- It gives how many rows it lists and how many blocks it opened, or the refusal,
unfoldable pub found_of : (l : List ℕ) (low high : ℕ) (rows : List ℕ) → Result Found FileRefusal
found_of l low high rows =
    giving (file_answer (search_tests l low high rows)) (counts (length (found l low high)) (length (opened l low high)))

-- and leaves the rows at the front of the room for them; what stands behind them stays.
unfoldable pub search_leaves : (l : List ℕ) (low high : ℕ) (rows : List ℕ) → List ℕ
search_leaves l low high rows = left (file_answer (search_tests l low high rows)) (over 0 (found l low high) rows) rows

-- After a refusal nothing is listed, and 0 stands for how many,
abbrev pub rows_found : Result Found FileRefusal → ℕ
rows_found (Ok given) = given.rows
rows_found (Err refusal) = 0

-- and 0 stands for the blocks that were opened.
abbrev pub blocks_opened : Result Found FileRefusal → ℕ
blocks_opened (Ok given) = given.opened
blocks_opened (Err refusal) = 0
