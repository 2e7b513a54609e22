-- The check of a file body by body (R95), for a program that holds the contents of the file and one body at a time:
-- what is tested of one body and of its block, and what the answer so far becomes with the next body. Kind 3, the only
-- one with run indices, is taken in edition 1 alone, and a range is said in edition 2 alone: so no file has both a run
-- index out of range and a range that is not the true one (D11), and the first refusal in the order of the bodies is
-- the answer to the file.
--
-- `front` is the front of the file, which has the contents.
-- Assumes nothing.
use Rattle.std.specs.Prelude.{Bool, true, List, [], ◌∷◌, ◌++◌, ℕ, zero, suc, eqb, leb, length, take, Err}
use Rattle.lists.specs.Tests.{long}
use Rattle.lists.specs.Pick.{pick}
use Rattle.contents.specs.declared.FileRefusal.TheVariants.{BadEntry, Block, Cut, Over, Range, Runs}
use Rattle.contents.specs.Answers.{FileAnswer, FileTest, file_answer, is_done, left}
use Rattle.contents.specs.Contents.{edition_or, count_or, contents_size, entry_or, range_or, has_right_entry, contents_tests}
use Rattle.bodies.specs.Bodies.{block_of, has_good_runs}
use Rattle.bodies.specs.Ranges.{is_range}

-- Entry i has to be there and right in its edition: 10 with the entry where it is not.
abbrev pub entry_test : (front : List ℕ) (i : ℕ) → FileTest
entry_test front i = (has_right_entry front i, Err (BadEntry i))

-- The run indices of body i have to be in range: 13 with the block where one is not.
abbrev pub runs_test : (front : List ℕ) (i : ℕ) (body : List ℕ) → FileTest
runs_test front i body = (has_good_runs (entry_or front i) body, Err (Runs i))

-- In edition 2 the range that entry i says has to be the true one of its block; in edition 1 it says none.
unfoldable pub has_true_range : (front : List ℕ) (i : ℕ) (block : List ℕ) → Bool
has_true_range front i block = pick (eqb (edition_or front) 2) (is_range (range_or front i) block) true

-- Where it is not, 15 is given with the block.
abbrev pub range_test : (front : List ℕ) (i : ℕ) (block : List ℕ) → FileTest
range_test front i block = (has_true_range front i block, Err (Range i))

-- The tests of body i are, in this order, that of its entry, whether the body is as long as the entry says, and that of
-- the run indices.
abbrev pub body_tests : (front : List ℕ) (i : ℕ) (body : List ℕ) → List FileTest
body_tests front i body =
    entry_test front i
    ∷ (leb (entry_or front i).length (length body), Err Cut)
    ∷ (leb (length body) (entry_or front i).length, Err Over)
    ∷ runs_test front i body
    ∷ []

-- Laying block i down tests its output first,
abbrev pub held_tests : (front : List ℕ) (i : ℕ) (body block : List ℕ) → List FileTest
held_tests front i body block = (long 1024 block, Err Block) ∷ body_tests front i body

-- and leaves this there.
unfoldable pub held_leaves : (front : List ℕ) (i : ℕ) (body block : List ℕ) → List ℕ
held_leaves front i body block = left (file_answer (held_tests front i body block)) (block_of (entry_or front i) body) block

-- The tests of block i, which was laid down, are that of its entry and that of its range.
abbrev pub range_tests : (front : List ℕ) (i : ℕ) (block : List ℕ) → List FileTest
range_tests front i block = entry_test front i ∷ range_test front i block ∷ []

-- With one body more its tests are made, and then that of the range of its block.
abbrev pub step_tests : (front : List ℕ) (i : ℕ) (body : List ℕ) → List FileTest
step_tests front i body = body_tests front i body ++ (range_test front i (block_of (entry_or front i) body) ∷ [])

-- A refusal stays, and where there is none yet body i decides.
unfoldable pub step_of : (answer : FileAnswer) (front : List ℕ) (i : ℕ) (body : List ℕ) → FileAnswer
step_of answer front i body = pick (is_done answer) (file_answer (step_tests front i body)) answer

-- This is the answer after n bodies, in a file of `size` bytes. Before the first body it is that to the contents.
unfoldable pub answer_after : (front : List ℕ) (size : ℕ) (bodies : ℕ → List ℕ) (n : ℕ) → FileAnswer
answer_after front size bodies zero = file_answer (contents_tests front size)
answer_after front size bodies (suc n) = step_of (answer_after front size bodies n) front n (bodies n)

-- Of a file the first four bytes are read, and then so many: the contents, which have at most 8,196 bytes. Where the
-- four say more, no more than these are read.
unfoldable pub front_size : (head : List ℕ) → ℕ
front_size head = pick (leb (contents_size (edition_or head) (count_or head)) 8196) (contents_size (edition_or head) (count_or head)) 4

-- This is the front of a file that is read so.
unfoldable pub front_of : (l : List ℕ) → List ℕ
front_of l = take (front_size (take 4 l)) l
