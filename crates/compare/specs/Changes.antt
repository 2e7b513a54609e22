-- What two column files differ in (R118, R119, R126): the places at which two blocks differ, the rows at which two
-- files do, each with both numbers, and the same rows block by block, as a program lists them that holds one block of
-- each file at a time.
-- Assumes nothing.
use Rattle.std.specs.Prelude.{Bool, List, [], ◌∷◌, ◌++◌, map, ℕ, zero, suc, ◌+◌, ◌*◌, min, eqb, length, get_or, Result, Ok, Err}
use Rattle.lists.specs.Tests.{long}
use Rattle.lists.specs.Passing.{failing_from}
use Rattle.lists.specs.Tab.{over}
use Rattle.contents.specs.declared.FileRefusal.{FileRefusal}
use Rattle.contents.specs.declared.FileRefusal.TheVariants.{Block}
use Rattle.contents.specs.Answers.{FileTest, file_answer, left as leaves, giving}
use Rattle.contents.specs.Contents.{count}
use Rattle.files.specs.Files.{block_in, row_at}
use Rattle.compare.specs.declared.Change.{Change}

-- This test says that two lists have the same number at place i.
abbrev pub is_same_at : (left right : List ℕ) (i : ℕ) → Bool
is_same_at left right i = eqb (get_or left i 0) (get_or right i 0)

-- These are the places at which two blocks differ.
unfoldable pub differing : (left right : List ℕ) → List ℕ
differing left right = failing_from 0 1024 (is_same_at left right)

-- Both blocks and the room for the places have to be 1,024 long: 2 where one is not.
abbrev pub differing_tests : (left right places : List ℕ) → List FileTest
differing_tests left right places = (long 1024 left, Err Block) ∷ (long 1024 right, Err Block) ∷ (long 1024 places, Err Block) ∷ []

-- The comparison of two blocks gives how many places differ, or the refusal,
unfoldable pub compared_of : (left right places : List ℕ) → Result ℕ FileRefusal
compared_of left right places = giving (file_answer (differing_tests left right places)) (length (differing left right))

-- and leaves these places at the front of the room for them; what stands behind them stays.
unfoldable pub differing_leaves : (left right places : List ℕ) → List ℕ
differing_leaves left right places = leaves (file_answer (differing_tests left right places)) (over 0 (differing left right) places) places

-- After a refusal nothing is listed, and 0 stands for how many.
abbrev pub count_of : Result ℕ FileRefusal → ℕ
count_of (Ok n) = n
count_of (Err refusal) = 0

-- Place p of block i is row 1,024 · i + p, and a change says both numbers there.
abbrev pub change_at : (i : ℕ) (left right : List ℕ) (p : ℕ) → Change
change_at i left right p = record { row = i * 1024 + p; left = get_or left p 0; right = get_or right p 0 }

-- These are the changes of block i, which is `left` in the one file and `right` in the other.
unfoldable pub changes_in : (i : ℕ) (left right : List ℕ) → List Change
changes_in i left right = map (change_at i left right) (differing left right)

-- Only rows in both files are compared.
abbrev pub rows_in_both : (l m : List ℕ) → ℕ
rows_in_both l m = min (count l) (count m) * 1024

-- This test says that two files have the same number at row p.
abbrev pub is_same_row : (l m : List ℕ) (p : ℕ) → Bool
is_same_row l m p = eqb (row_at l p) (row_at m p)

-- The change at row p says both numbers.
abbrev pub change_of : (l m : List ℕ) (p : ℕ) → Change
change_of l m p = record { row = p; left = row_at l p; right = row_at m p }

-- These are the changes between two files: each row whose numbers differ, rising.
unfoldable pub changes_of : (l m : List ℕ) → List Change
changes_of l m = map (change_of l m) (failing_from 0 (rows_in_both l m) (is_same_row l m))

-- These are the changes of the first n blocks, one block after another.
unfoldable pub changes_to : (l m : List ℕ) (n : ℕ) → List Change
changes_to l m zero = []
changes_to l m (suc n) = changes_to l m n ++ changes_in n (block_in l n) (block_in m n)
