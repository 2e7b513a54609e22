-- The check of a file that another program wrote (R115, R116): whether it is, byte for byte, what our writer would give
-- for the rows that it holds. `l` is the file, a list of bytes.
-- Assumes nothing.
use Rattle.std.specs.Prelude.{Bool, true, false, List, [], ◌∷◌, ◌++◌, ℕ, eqb, Err}
use Rattle.lists.specs.Pick.{both}
use Rattle.lists.specs.Search.{first_bad}
use Rattle.contents.specs.declared.FileRefusal.TheVariants.{Edition, Foreign}
use Rattle.contents.specs.declared.Entry.{Entry}
use Rattle.contents.specs.Answers.{FileTest}
use Rattle.contents.specs.Contents.{edition, count, entry_of}
use Rattle.candidates.specs.Candidates.{chosen, body_for}
use Rattle.files.specs.Files.{body_of, block_in, file_tests}

-- This test says that two entries are the same.
abbrev pub is_same_entry : (a b : Entry) → Bool
is_same_entry a b =
    both (eqb a.kind b.kind)
    (both (eqb a.width b.width)
    (both (eqb a.zero b.zero) (both (eqb a.length b.length) (eqb a.reference b.reference))))

-- This test says that two lists are the same.
unfoldable pub is_same_list : (a b : List ℕ) → Bool
is_same_list [] [] = true
is_same_list [] (y ∷ b) = false
is_same_list (x ∷ a) [] = false
is_same_list (x ∷ a) (y ∷ b) = both (eqb x y) (is_same_list a b)

-- Block i is as our writer would write it where its entry and its body are those that are chosen for its values. In a
-- file that the reader accepts its range is the true one, as the writer's is.
unfoldable pub is_ours : (l : List ℕ) (i : ℕ) → Bool
is_ours l i = both (is_same_entry (entry_of l i) (chosen (block_in l i)).entry) (is_same_list (body_of l i) (body_for (block_in l i)))

-- This is the lowest block that is not, and the count where there is none.
unfoldable pub foreign : List ℕ → ℕ
foreign l = first_bad (count l) (is_ours l)

-- The tests are those of the reader, then that of the edition, and then that of every block.
abbrev pub canonical_tests : (l : List ℕ) → List FileTest
canonical_tests l = file_tests l ++ ((eqb (edition l) 2, Err Edition) ∷ (eqb (foreign l) (count l), Err (Foreign (foreign l))) ∷ [])
