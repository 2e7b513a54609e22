-- The machine that lists what two files differ in: what it wishes for at each turn, and what it lays into the output, a
-- definition for each step of the code. `left` and `right` with `Front` or `Body` are what the buffers hold. That its
-- runs print what Text says is the theorem.
-- Assumes nothing.
use Rattle.std.specs.Prelude.{List, ℕ, ◌+◌, ◌*◌, min, eqb, leb, ltb, length, Ok}
use Rattle.lists.specs.Pick.{pick, both}
use Rattle.lists.specs.Tab.{over}
use Rattle.places.specs.Sizes.{largest_u64}
use Rattle.contents.specs.Answers.{FileAnswer, file_answer, is_done}
use Rattle.contents.specs.Contents.{count_or, entry_or, contents_tests}
use Rattle.bodies.specs.Bodies.{block_of}
use Rattle.bodywise.specs.declared.Body.{Body}
use Rattle.bodywise.specs.Cursor.{body_at, first_body, next_body}
use Rattle.bodywise.specs.Steps.{body_tests, range_tests, step_of, front_size}
use Rattle.compare.specs.Changes.{differing, changes_in}
use Rattle.compare.specs.Ranges.{same_range}
use Rattle.wishes.specs.declared.Side.{Side}
use Rattle.wishes.specs.declared.Side.TheVariants.{Left, Right}
use Rattle.wishes.specs.declared.Part.TheVariants.{Front as OfFront, Body as OfBody}
use Rattle.wishes.specs.declared.Wish.{Wish}
use Rattle.wishes.specs.declared.Wish.TheVariants.{Read, Write, Done}
use Rattle.wishes.specs.Runs.{Given, Machine}
use Rattle.listing.specs.declared.Stage.{Stage}
use Rattle.listing.specs.declared.Stage.TheVariants.{Head, Front, Checking, Checked, Between, Again, End}
use Rattle.listing.specs.declared.State.{State}
use Rattle.listing.specs.declared.Turn.{Turn}
use Rattle.listing.specs.Text.{lines_of, refusal_line, last_lines}

-- ---- turns

-- The same state at another stage, with a wish.
abbrev pub turn_to : (s : State) (stage : Stage) (wish : Wish) → Turn
turn_to s stage wish = record {
  state = record { stage = stage; number = s.number; left = s.left; right = s.right; differences = s.differences };
  wish = wish;
}

-- The same state at another block, by where its body begins in each file.
abbrev pub at_bodies : (s : State) (number left_at rightAt : ℕ) → State
at_bodies s number left_at rightAt = record {
  stage = s.stage;
  number = number;
  left = record { size = s.left.size; at = left_at };
  right = record { size = s.right.size; at = rightAt };
  differences = s.differences;
}

-- A turn, and what the output holds then.
abbrev pub given : (t : Turn) (out : List ℕ) → Given State
given t out = record { state = t.state; wish = t.wish; out = out }

-- The turn alone, without the output.
abbrev pub turn_of : Given State → Turn
turn_of g = record { state = g.state; wish = g.wish }

-- Nothing more is wished for.
abbrev pub done_turn : (s : State) → Turn
done_turn s = record { state = s; wish = Done }

-- A text is laid at the front of the output and is to be written, and it is the last one.
abbrev pub last_text : (s : State) (text out : List ℕ) → Given State
last_text s text out = given (turn_to s End (Write (length text))) (over 0 text out)

-- A file is refused.
unfoldable pub refusal : (s : State) (side : Side) (answer : FileAnswer) (out : List ℕ) → Given State
refusal s side answer out = last_text s (refusal_line side answer) out

-- ---- the check

-- The first four bytes of a file are wished for,
abbrev pub ask_head : (s : State) (side : Side) → Turn
ask_head s side = turn_to s (Head side) (Read side OfFront 0 4)

-- at first those of the left one.
abbrev pub start_of : (leftSize rightSize : ℕ) → Turn
start_of leftSize rightSize = record {
  state = record {
    stage = Head Left;
    number = 0;
    left = record { size = leftSize; at = 0 };
    right = record { size = rightSize; at = 0 };
    differences = 0;
  };
  wish = Read Left OfFront 0 4;
}

-- By them the front is wished for,
abbrev pub ask_front : (s : State) (side : Side) (head : List ℕ) → Turn
ask_front s side head = turn_to s (Front side) (Read side OfFront 0 (front_size head))

-- of the file whose first four bytes were read.
abbrev pub after_head : (s : State) (side : Side) (left_front_lem right_front_lem : List ℕ) → Turn
after_head s Left left_front_lem right_front_lem = ask_front s Left left_front_lem
after_head s Right left_front_lem right_front_lem = ask_front s Right right_front_lem

-- A body is wished for: as many bytes as its entry says, and no more than the buffer has room for.
abbrev pub body_wish : (side : Side) (b : Body) → Wish
body_wish side b = Read side OfBody b.at (min b.entry.length 10240)

-- The state at a body of one file.
abbrev pub at_body_lem : (s : State) (side : Side) (b : Body) → State
at_body_lem s Left b = at_bodies s b.number b.at s.right.at
at_body_lem s Right b = at_bodies s b.number s.left.at b.at

-- A body is to be checked.
abbrev pub ask_body : (s : State) (side : Side) (b : Body) → Turn
ask_body s side b = turn_to (at_body_lem s side b) (Checking side) (body_wish side b)

-- Behind the left file the right one is checked, and behind that both are.
abbrev pub behind : (s : State) (side : Side) → Turn
behind s Left = ask_head s Right
behind s Right = turn_to s Checked (Write 0)

-- The check goes to a body of a file, or is behind the last one.
unfoldable pub go_to : (s : State) (side : Side) (front : List ℕ) (b : Body) → Turn
go_to s side front b = pick (ltb b.number (count_or front)) (ask_body s side b) (behind s side)

-- A step of the check refuses the file, or goes to the next body.
abbrev pub checked_by : (answer : FileAnswer) (s : State) (side : Side) (front : List ℕ) (b : Body) (out : List ℕ) → Given State
checked_by answer s side front b out = pick (is_done answer) (given (go_to s side front b) out) (refusal s side answer out)

-- The front is there: the contents are checked, and the next body is the first.
unfoldable pub check_front : (s : State) (side : Side) (size : ℕ) (front out : List ℕ) → Given State
check_front s side size front out = checked_by (file_answer (contents_tests front size)) s side front (first_body front) out

-- It is the front of the file that was read, and the size is that file's.
abbrev pub after_front : (s : State) (side : Side) (left_front_lem right_front_lem out : List ℕ) → Given State
after_front s Left left_front_lem right_front_lem out = check_front s Left s.left.size left_front_lem out
after_front s Right left_front_lem right_front_lem out = check_front s Right s.right.size right_front_lem out

-- A body is there: it is checked, and the next body is the one behind it.
unfoldable pub check_body : (s : State) (side : Side) (at : ℕ) (front body out : List ℕ) → Given State
check_body s side at front body out =
    checked_by (step_of (Ok tt) front s.number body) s side front (next_body front (body_at front s.number at)) out

-- It is a body of the file that was read.
abbrev pub after_body : (s : State) (side : Side) (left_front_lem right_front_lem left_body_lem right_body_lem out : List ℕ) → Given State
after_body s Left left_front_lem right_front_lem left_body_lem right_body_lem out = check_body s Left s.left.at left_front_lem left_body_lem out
after_body s Right left_front_lem right_front_lem left_body_lem right_body_lem out = check_body s Right s.right.at right_front_lem right_body_lem out

-- ---- the list

-- So many rows before the block differ, and so many bytes are to be written.
abbrev pub between : (s : State) (differences bytes : ℕ) → Turn
between s differences bytes = record {
  state = record { stage = Between; number = s.number; left = s.left; right = s.right; differences = differences };
  wish = Write bytes;
}

-- Both files are checked: the list begins, before the first block.
abbrev pub begin : (s : State) (left_front_lem right_front_lem : List ℕ) → Turn
begin s left_front_lem right_front_lem = between (at_bodies s 0 (first_body left_front_lem).at (first_body right_front_lem).at) 0 0

-- The body of the block is wished for again, of one file.
abbrev pub ask_again : (s : State) (side : Side) (at : ℕ) (front : List ℕ) → Turn
ask_again s side at front = turn_to s (Again side) (body_wish side (body_at front s.number at))

-- So many blocks are in both files.
abbrev pub blocks_in_both : (left_front_lem right_front_lem : List ℕ) → ℕ
blocks_in_both left_front_lem right_front_lem = min (count_or left_front_lem) (count_or right_front_lem)

-- The lines of the blocks so far are written: the next block is read, and behind the last one that both files have come
-- the last lines.
unfoldable pub go_on : (s : State) (left_front_lem right_front_lem out : List ℕ) → Given State
go_on s left_front_lem right_front_lem out =
    pick (ltb s.number (blocks_in_both left_front_lem right_front_lem)) (given (ask_again s Left s.left.at left_front_lem) out)
    (last_text s (last_lines (count_or left_front_lem * 1024) (count_or right_front_lem * 1024) s.differences) out)

-- The state behind the block.
abbrev pub past : (s : State) (left_front_lem right_front_lem : List ℕ) → State
past s left_front_lem right_front_lem =
    let left = next_body left_front_lem (body_at left_front_lem s.number s.left.at) in
    let right = next_body right_front_lem (body_at right_front_lem s.number s.right.at) in
    at_bodies s left.number left.at right.at

-- The rows of the block that differ are listed: their lines are to be written, and the list is behind the block. A
-- count that is no number of 64 bits counts as the largest that is one.
unfoldable pub listed : (s : State) (left_front_lem right_front_lem left right out : List ℕ) → Given State
listed s left_front_lem right_front_lem left right out =
    let text = lines_of (changes_in s.number left right) in
    given (between (past s left_front_lem right_front_lem) (min (s.differences + length (differing left right)) largest_u64) (length text)) (over 0 text out)

-- A test of a file that was taken before comes first, and refuses it or leaves it to the rest.
abbrev pub still_taken : (answer : FileAnswer) (s : State) (side : Side) (out : List ℕ) (rest : Given State) → Given State
still_taken answer s side out rest = pick (is_done answer) rest (refusal s side answer out)

-- Both blocks, which are laid down, are compared. Their ranges are tested again where a row is listed and where the
-- files do not say the same one.
unfoldable pub compared : (s : State) (left_front_lem right_front_lem left right out : List ℕ) → Given State
compared s left_front_lem right_front_lem left right out =
    pick (both (eqb (length (differing left right)) 0) (same_range left_front_lem right_front_lem s.number))
    (listed s left_front_lem right_front_lem left right out)
    (still_taken (file_answer (range_tests left_front_lem s.number left)) s Left out
    (still_taken (file_answer (range_tests right_front_lem s.number right)) s Right out
    (listed s left_front_lem right_front_lem left right out)))

-- Both bodies are tested again, and stand for these blocks.
unfoldable pub both_laid : (s : State) (left_front_lem right_front_lem left_body_lem right_body_lem out : List ℕ) → Given State
both_laid s left_front_lem right_front_lem left_body_lem right_body_lem out =
    still_taken (file_answer (body_tests left_front_lem s.number left_body_lem)) s Left out
    (still_taken (file_answer (body_tests right_front_lem s.number right_body_lem)) s Right out
    (compared s left_front_lem right_front_lem (block_of (entry_or left_front_lem s.number) left_body_lem) (block_of (entry_or right_front_lem s.number) right_body_lem) out))

-- No state of a run has a block that is not in both files: there is nothing to be done then.
unfoldable pub both_there : (s : State) (left_front_lem right_front_lem left_body_lem right_body_lem out : List ℕ) → Given State
both_there s left_front_lem right_front_lem left_body_lem right_body_lem out =
    pick (leb (blocks_in_both left_front_lem right_front_lem) s.number) (given (done_turn s) out) (both_laid s left_front_lem right_front_lem left_body_lem right_body_lem out)

-- A body is there again: behind the left one comes the right one, and then both are compared.
abbrev pub again : (s : State) (side : Side) (left_front_lem right_front_lem left_body_lem right_body_lem out : List ℕ) → Given State
again s Left left_front_lem right_front_lem left_body_lem right_body_lem out = given (ask_again s Right s.right.at right_front_lem) out
again s Right left_front_lem right_front_lem left_body_lem right_body_lem out = both_there s left_front_lem right_front_lem left_body_lem right_body_lem out

-- ---- the machine

-- The next turn, by what was wished for last.
unfoldable pub by_stage : (stage : Stage) → Machine State
by_stage (Head side) s h out = given (after_head s side h.left_front_lem h.right_front_lem) out
by_stage (Front side) s h out = after_front s side h.left_front_lem h.right_front_lem out
by_stage (Checking side) s h out = after_body s side h.left_front_lem h.right_front_lem h.left_body_lem h.right_body_lem out
by_stage Checked s h out = given (begin s h.left_front_lem h.right_front_lem) out
by_stage Between s h out = go_on s h.left_front_lem h.right_front_lem out
by_stage (Again side) s h out = again s side h.left_front_lem h.right_front_lem h.left_body_lem h.right_body_lem out
by_stage End s h out = given (done_turn s) out

-- The output has to have room for the lines of a block. Where it has not, nothing is done.
unfoldable pub next_of : Machine State
next_of s h out = pick (leb 65536 (length out)) (by_stage s.stage s h out) (given (done_turn s) out)

-- No run takes more turns than this: with 256 blocks in each file it takes at most 1,288.
abbrev pub most_turns : ℕ
most_turns = 1300
