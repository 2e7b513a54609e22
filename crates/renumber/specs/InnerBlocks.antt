-- What is found of one block, and of the whole file, before anything is written, and what is kept of the blocks until
-- they are written. Private steps name these; no public contract does.
-- Assumes nothing.
use Rattle.std.specs.Prelude.{true, false, List, map, ◌≡◌, ℕ, ◌+◌, ◌*◌, ◌<◌, eqb, length, get_or, set, Ok, Err}
use Rattle.lists.specs.Ends.{lowest_of, highest_of}
use Rattle.lists.specs.Members.{Rising}
use Rattle.lists.specs.Passing.{failing_from}
use Rattle.lists.specs.Pick.{both}
use Rattle.lists.specs.Search.{first_bad}
use Rattle.contents.specs.Answers.{FileAnswer}
use Rattle.contents.specs.Contents.{count}
use Rattle.candidates.specs.Candidates.{chosen, differences}
use Rattle.candidates.specs.Widths.{width_of}
use Rattle.files.specs.Files.{block_in, row_count, has_true_range, FileTaken}
use Rattle.writer.specs.InnerKept.{Kept}
use Rattle.renumber.specs.declared.Found.{Found}
use Rattle.renumber.specs.declared.RenumberRefusal.{RenumberRefusal}
use Rattle.renumber.specs.declared.RenumberRefusal.TheVariants.{File}
use Rattle.renumber.specs.InnerPairs.{is_kept}
use Rattle.renumber.specs.Pairs.{renumbered, is_free}
use Rattle.renumber.specs.Renumber.{new_file, changed_rows, taken_at}

-- A refusal of the file stands before any other.
abbrev pub first_of : (file : FileAnswer) (otherwise : RenumberRefusal) → RenumberRefusal
first_of (Ok _) otherwise = otherwise
first_of (Err refusal) otherwise = File refusal

-- This is a block whose numbers are renumbered,
unfoldable pub new_block : (old new block : List ℕ) → List ℕ
new_block old new block = map (renumbered old new) block

-- this is the lowest place of a block whose number becomes one with another, and the block's length where there is none,
unfoldable pub taken_in : (old new block : List ℕ) → ℕ
taken_in old new block = first_bad (length block) (λ k. is_free old new (get_or block k 0))

-- and these are the places of a block whose numbers change.
unfoldable pub changed_in : (old new block : List ℕ) → List ℕ
changed_in old new block = failing_from 0 (length block) (λ k. is_kept old new (get_or block k 0))

-- The three numbers that a block is laid down by are kept with those of the others, from place 3·i on.
abbrev pub kept_with : (block kept : List ℕ) (i : ℕ) → List ℕ
kept_with block kept i =
    set (set (set kept (i * 3) (lowest_of block)) (i * 3 + 1) (highest_of block)) (i * 3 + 2) (width_of (differences block))

-- Of the first n blocks it is kept how many of their numbers change.
abbrev pub Counted : (old new l counts : List ℕ) (n : ℕ) → Type 0
Counted old new l counts n = (i : ℕ) → i < n → get_or counts i 0 ≡ length (changed_in old new (block_in l i))

-- So it is with what was found of a block,
pub record BlockFound (old new l : List ℕ) (i : ℕ) (m : Found) : Type 0 where
  pub passes : m.passes ≡ both (has_true_range l i) (eqb (taken_in old new (block_in l i)) 1024)
  pub taken : m.taken ≡ taken_in old new (block_in l i)
  pub size : m.size ≡ (chosen (new_block old new (block_in l i))).entry.length
  pub changed : m.changed ≡ length (changed_in old new (block_in l i))

-- with what a file is laid down by,
pub record Ready (old new l kept counts : List ℕ) : Type 0 where
  pub file : FileTaken l
  pub rising : Rising old
  pub new_long : length new ≡ length old
  pub kept_long : length kept ≡ 768
  pub kept_of : Kept (λ i. new_block old new (block_in l i)) kept (count l)
  pub counts_long : length counts ≡ 256
  pub counts_of : Counted old new l counts (count l)

-- and with what was found of a file: where it passes it can be laid down, no row is taken, and its new length and how
-- many rows change are known; where it does not, a range is false, or the lowest row that is taken is known.
pub record FileFound (old new l kept counts : List ℕ) (m : Found) : Type 0 where
  pub ready : m.passes ≡ true → Ready old new l kept counts
  pub free : m.passes ≡ true → taken_at old new l ≡ row_count l
  pub size : m.passes ≡ true → m.size ≡ length (new_file old new l)
  pub changed : m.passes ≡ true → m.changed ≡ length (changed_rows old new l)
  pub taken : m.passes ≡ false → FileTaken l → (m.taken ≡ taken_at old new l) × (m.taken < row_count l)
