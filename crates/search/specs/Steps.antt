-- The search of a file body by body (R111), for a program that holds the contents of the file and one body at a time:
-- which bodies it reads, the rows of one block, and what the contents and these bodies in their order give. That this
-- is what the search of the file gives is a theorem.
--
-- `front` is the front of the file, which has the contents, and `low` and `high` are the bounds, both included.
-- Assumes nothing.
use Rattle.std.specs.Prelude.{ℕ, zero, suc, ◌-◌, ◌*◌, Bool, List, [], ◌∷◌, ◌++◌, length, ◌==◌, nat_le, nat_lt, slice_index, Result, Err}
use Rattle.lists.specs.Tests.{long}
use Rattle.lists.specs.Pick.{pick, either}
use Rattle.lists.specs.Tab.{over}
use Rattle.lists.specs.Passing.{passing}
use Rattle.contents.specs.declared.FileRefusal.{FileRefusal}
use Rattle.contents.specs.declared.FileRefusal.TheVariants.{Beyond, Block, Room}
use Rattle.contents.specs.Answers.{FileAnswer, FileTest, file_answer, left, giving}
use Rattle.contents.specs.Contents.{edition_or, count_or, entry_or, range_or}
use Rattle.bodies.specs.Bodies.{block_of}
use Rattle.files.specs.Chosen.{chosen_after}
use Rattle.search.specs.declared.Found.{Found}
use Rattle.search.specs.Search.{between, meets, counts}

-- By the contents alone block i is opened where the range that its entry says and the bounds have a number in common,
-- or the edition is 1. Where the entry is not there, its range is every number.
unfoldable pub opens_by : (front : List ℕ) (low high i : ℕ) → Bool
opens_by front low high i = either (edition_or front == 1) (meets (range_or front i) low high)

-- This test says that row p of a block that begins with row `first` lies between the bounds.
abbrev pub in_block : (block : List ℕ) (first low high p : ℕ) → Bool
in_block block first low high p = between low high (slice_index block (p - first))

-- These are the rows of the block that do.
abbrev pub found_in : (block : List ℕ) (first low high : ℕ) → List ℕ
found_in block first low high = passing first (length block) (in_block block first low high)

-- Block i begins with row i · 1,024.
abbrev pub rows_in : (block : List ℕ) (i low high : ℕ) → List ℕ
rows_in block i low high = found_in block (i * 1024) low high

-- The rows of one block are listed where it is 1,024 long, it has a number that a block of a file can have, and there
-- is room for them.
abbrev pub listed_tests : (block : List ℕ) (i low high : ℕ) (rows : List ℕ) → List FileTest
listed_tests block i low high rows =
    (long 1024 block, Err Block)
    ∷ (nat_lt i 256, Err Beyond)
    ∷ (nat_le (length (rows_in block i low high)) (length rows), Err Room)
    ∷ []

-- The call gives how many rows it lists, of one block, or the refusal,
unfoldable pub listed_of : (block : List ℕ) (i low high : ℕ) (rows : List ℕ) → Result Found FileRefusal
listed_of block i low high rows = giving (file_answer (listed_tests block i low high rows)) (counts (length (rows_in block i low high)) 1)

-- and leaves them at the front of the room.
unfoldable pub listed_leaves : (block : List ℕ) (i low high : ℕ) (rows : List ℕ) → List ℕ
listed_leaves block i low high rows = left (file_answer (listed_tests block i low high rows)) (over 0 (rows_in block i low high) rows) rows

-- These are the rows of the opened blocks among the first n, one block after another, each laid down from its body.
unfoldable pub rows_after : (front : List ℕ) (bodies : ℕ → List ℕ) (low high n : ℕ) → List ℕ
rows_after front bodies low high zero = []
rows_after front bodies low high (suc n) =
    rows_after front bodies low high n
    ++ pick (opens_by front low high n) (rows_in (block_of (entry_or front n) (bodies n)) n low high) []

-- The rows of the whole file are those of as many blocks as its contents say.
abbrev pub rows_by : (front : List ℕ) (bodies : ℕ → List ℕ) (low high : ℕ) → List ℕ
rows_by front bodies low high = rows_after front bodies low high (count_or front)

-- The answer to a file of `size` bytes is that to its contents and then to the opened bodies, one after another. Where
-- these are right, there has to be room for the rows.
unfoldable pub answer_by : (front : List ℕ) (size : ℕ) (bodies : ℕ → List ℕ) (low high : ℕ) (rows : List ℕ) → FileAnswer
answer_by front size bodies low high rows =
    left (chosen_after (opens_by front low high) front size bodies (count_or front))
    (file_answer ((nat_le (length (rows_by front bodies low high)) (length rows), Err Room) ∷ []))
    (chosen_after (opens_by front low high) front size bodies (count_or front))

-- So the steps give how many rows they list and how many blocks they opened, or the refusal,
unfoldable pub searched_by : (front : List ℕ) (size : ℕ) (bodies : ℕ → List ℕ) (low high : ℕ) (rows : List ℕ) → Result Found FileRefusal
searched_by front size bodies low high rows =
    giving (answer_by front size bodies low high rows)
    (counts (length (rows_by front bodies low high)) (length (passing 0 (count_or front) (opens_by front low high))))

-- and leave the rows at the front of the room.
unfoldable pub left_by : (front : List ℕ) (size : ℕ) (bodies : ℕ → List ℕ) (low high : ℕ) (rows : List ℕ) → List ℕ
left_by front size bodies low high rows =
    left (answer_by front size bodies low high rows) (over 0 (rows_by front bodies low high) rows) rows
