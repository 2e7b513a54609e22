-- What is printed of two files (R118 to R121), as bytes: the lines, and the whole text.
-- Assumes nothing.
use Rattle.std.specs.Prelude.{List, [], ◌∷◌, ◌++◌, ℕ, ◌+◌, ◌*◌, min, eqb, length}
use Rattle.lists.specs.Pick.{pick}
use Rattle.decimal.specs.Decimal.{text_of}
use Rattle.contents.specs.Answers.{FileAnswer, file_answer, number_of, place_of, is_done}
use Rattle.contents.specs.Contents.{count, contents_tests}
use Rattle.files.specs.Files.{row_count, file_tests}
use Rattle.compare.specs.declared.Change.{Change}
use Rattle.compare.specs.Changes.{changes_of}
use Rattle.wishes.specs.declared.Side.{Side}
use Rattle.wishes.specs.declared.Side.TheVariants.{Left, Right}

-- ---- the lines

-- A number in decimal, and the byte that ends it: 32 is a space, and 10 a newline.
unfoldable pub field_of : (n end : ℕ) → List ℕ
field_of n end = text_of n ++ (end ∷ [])

-- `row left right`
unfoldable pub change_line : Change → List ℕ
change_line c = field_of c.row 32 ++ (field_of c.left 32 ++ field_of c.right 10)

-- The lines of these changes, one after another.
unfoldable pub lines_of : List Change → List ℕ
lines_of [] = []
lines_of (c ∷ changes) = change_line c ++ lines_of changes

-- `refused left ` and `refused right `
abbrev pub refused_text : Side → List ℕ
refused_text Left = 114 ∷ 101 ∷ 102 ∷ 117 ∷ 115 ∷ 101 ∷ 100 ∷ 32 ∷ 108 ∷ 101 ∷ 102 ∷ 116 ∷ 32 ∷ []
refused_text Right = 114 ∷ 101 ∷ 102 ∷ 117 ∷ 115 ∷ 101 ∷ 100 ∷ 32 ∷ 114 ∷ 105 ∷ 103 ∷ 104 ∷ 116 ∷ 32 ∷ []

-- `refused left X Y`, where X is the number of the answer and Y its place
unfoldable pub refusal_line : (side : Side) (answer : FileAnswer) → List ℕ
refusal_line side answer = refused_text side ++ (field_of (number_of answer) 32 ++ field_of (place_of answer) 10)

-- `rows `
abbrev pub rows_text : List ℕ
rows_text = 114 ∷ 111 ∷ 119 ∷ 115 ∷ 32 ∷ []

-- `rows A B` where the two row counts differ, and else no line
unfoldable pub rows_line : (a b : ℕ) → List ℕ
rows_line a b = pick (eqb a b) [] (rows_text ++ (field_of a 32 ++ field_of b 10))

-- `differences `
abbrev pub differences_text : List ℕ
differences_text = 100 ∷ 105 ∷ 102 ∷ 102 ∷ 101 ∷ 114 ∷ 101 ∷ 110 ∷ 99 ∷ 101 ∷ 115 ∷ 32 ∷ []

-- `differences K`
unfoldable pub count_line : (k : ℕ) → List ℕ
count_line k = differences_text ++ field_of k 10

-- The last lines of files that have so many rows, and so many that differ.
unfoldable pub last_lines : (a b k : ℕ) → List ℕ
last_lines a b k = rows_line a b ++ count_line k

-- ---- the text

-- Of two files that are taken a line for each change is printed, rising, and then the last lines.
unfoldable pub changes_text : (l m : List ℕ) → List ℕ
changes_text l m = lines_of (changes_of l m) ++ last_lines (row_count l) (row_count m) (length (changes_of l m))

-- This is the answer to a file.
abbrev pub answer_to : (l : List ℕ) → FileAnswer
answer_to l = file_answer (file_tests l)

-- A file that is refused gives the only line, and one that is taken leaves it to the rest.
abbrev pub unless_refused : (side : Side) (l rest : List ℕ) → List ℕ
unless_refused side l rest = pick (is_done (answer_to l)) rest (refusal_line side (answer_to l))

-- This is printed of two files: the refusal of the first bad one, left before right, and else what changed.
unfoldable pub listing_of : (l m : List ℕ) → List ℕ
listing_of l m = unless_refused Left l (unless_refused Right m (changes_text l m))

-- ---- the turns

-- A machine that lists has to look at so many blocks of a file: at none where the contents are not right.
unfoldable pub blocks_of : (l : List ℕ) → ℕ
blocks_of l = pick (is_done (file_answer (contents_tests l (length l)))) (count l) 0

-- It takes no more turns than this (R129): one for each body to check it, three for each block of both to compare it,
-- and eight.
unfoldable pub turns_of : (l m : List ℕ) → ℕ
turns_of l m = 8 + blocks_of l + blocks_of m + 3 * min (blocks_of l) (blocks_of m)
