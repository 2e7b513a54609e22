-- The column file that stands for a list of numbers (R99 to R101), and what the writer answers and leaves (R105).
-- Assumes nothing.
use Rattle.std.specs.Prelude.{List, [], ◌∷◌, ◌++◌, ℕ, ◌/◌, ◌%◌, eqb, leb, length, Result, Ok, Err}
use Rattle.lists.specs.Parts.{cut, joined}
use Rattle.lists.specs.Pick.{both}
use Rattle.lists.specs.Tab.{over}
use Rattle.contents.specs.declared.FileRefusal.{FileRefusal}
use Rattle.contents.specs.declared.FileRefusal.TheVariants.{Block, Room}
use Rattle.contents.specs.Answers.{FileAnswer, FileTest, file_answer, left, giving}
use Rattle.contents.specs.Bytes.{head_bytes, entry_bytes}
use Rattle.bodies.specs.Ranges.{true_range}
use Rattle.candidates.specs.Candidates.{chosen, body_for}

-- The numbers make so many blocks,
abbrev pub block_count : (values : List ℕ) → ℕ
block_count values = length values / 1024

-- and these are the numbers of block b.
abbrev pub block_at : (values : List ℕ) (b : ℕ) → List ℕ
block_at values b = cut 1024 values b

-- The first n entries are those of the chosen candidate of each block, each with the block's smallest and largest
-- number,
unfoldable pub entries_for : (values : List ℕ) (n : ℕ) → List ℕ
entries_for values n = joined n (λ b. entry_bytes (chosen (block_at values b)).entry (true_range (block_at values b)))

-- and these are the first n bodies.
unfoldable pub bodies_for : (values : List ℕ) (n : ℕ) → List ℕ
bodies_for values n = joined n (λ b. body_for (block_at values b))

-- This is the file of the numbers, from its first byte to its last: edition 2 and the block count, the entries, the
-- bodies.
unfoldable pub file_of : (values : List ℕ) → List ℕ
file_of values = head_bytes (block_count values) ++ entries_for values (block_count values) ++ bodies_for values (block_count values)

-- Writing takes whole blocks, at most 256 of them, and an output with room for the file itself.
abbrev pub write_tests : (values output : List ℕ) → List FileTest
write_tests values output =
    (both (eqb (length values % 1024) 0) (leb (length values) 262144), Err Block)
    ∷ (leb (length (file_of values)) (length output), Err Room)
    ∷ []

-- A call that lays a file down gives the file's length, or the refusal,
abbrev pub given_by : (a : FileAnswer) (file : List ℕ) → Result ℕ FileRefusal
given_by a file = giving a (length file)

-- and leaves the file at the front of the output; the bytes behind it stay.
abbrev pub left_by : (a : FileAnswer) (file output : List ℕ) → List ℕ
left_by a file output = left a (over 0 file output) output

-- The writer gives this,
unfoldable pub written_of : (values output : List ℕ) → Result ℕ FileRefusal
written_of values output = given_by (file_answer (write_tests values output)) (file_of values)

-- and leaves this.
unfoldable pub file_leaves : (values output : List ℕ) → List ℕ
file_leaves values output = left_by (file_answer (write_tests values output)) (file_of values) output

-- After a refusal nothing is written, and 0 stands for the length.
abbrev pub length_of : Result ℕ FileRefusal → ℕ
length_of (Ok n) = n
length_of (Err refusal) = 0
