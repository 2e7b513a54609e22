-- What a walk over the bodies of a file asks of one of them (R93): of entry i, and of a body that is taken to begin at
-- the place `at`. The file may be any bytes, and i and `at` any numbers. Laws say what this is in a file whose contents
-- are right, where `at` is the place of body i: these speak of body i, and of block i where its run indices are in
-- range, and in edition 2 the test of the range is then the reader's. In edition 1 an entry says no range, and that
-- test takes 0 to 2^64 - 1 for it.
-- Assumes nothing.
use Rattle.std.specs.Prelude.{ℕ, ◌+◌, Bool, List, [], length, take, drop, replicate, nat_le}
use Rattle.lists.specs.Pick.{pick}
use Rattle.contents.specs.Answers.{FileTest, file_answer, is_done}
use Rattle.contents.specs.Contents.{entry_or, range_or}
use Rattle.bodies.specs.Bodies as Bodies
use Rattle.bodies.specs.Ranges.{is_range}

-- The body that begins at `at` has as many bytes as entry i says. Where they do not all stand in the file, it has none.
unfoldable pub body_from : (l : List ℕ) (i at : ℕ) → List ℕ
body_from l i at = pick (nat_le (at + (entry_or l i).length) (length l)) (take (entry_or l i).length (drop at l)) []

-- This test says that this body is as its entry says.
unfoldable pub good_from : (l : List ℕ) (i at : ℕ) → Bool
good_from l i at = is_done (file_answer (Bodies.body_tests (entry_or l i) (body_from l i at)))

-- These are the tests of laying its block down, where the place of 10 and of 13 is 0, as in the tests of one body,
abbrev pub from_tests : (l : List ℕ) (i at : ℕ) (output : List ℕ) → List FileTest
from_tests l i at output = Bodies.block_tests (entry_or l i) (body_from l i at) output

-- and this is what that leaves in its output.
unfoldable pub from_leaves : (l : List ℕ) (i at : ℕ) (output : List ℕ) → List ℕ
from_leaves l i at output = Bodies.block_leaves (entry_or l i) (body_from l i at) output

-- This test says that the block has the range that its entry says. Where it cannot be laid down, 1,024 zeros stand for
-- it.
unfoldable pub true_from : (l : List ℕ) (i at : ℕ) → Bool
true_from l i at = is_range (range_or l i) (from_leaves l i at (replicate 1024 0))
