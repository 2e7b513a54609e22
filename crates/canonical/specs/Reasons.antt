-- When each number of R116 is given, said a second time: in plain arithmetic, in the order of that rule. It guards the
-- tests in Canonical: that a file gets an answer exactly when it has the reason for it here is a theorem.
-- Assumes nothing.
use Rattle.std.specs.Prelude.{List, ◌≢◌, ◌≡◌, ℕ, ◌<◌, Ok, Err}
use Rattle.contents.specs.declared.FileRefusal.TheVariants.{Edition, Foreign}
use Rattle.contents.specs.Contents.{edition, count, entry_of}
use Rattle.candidates.specs.Candidates.{chosen, body_for}
use Rattle.files.specs.Files.{body_of, block_in, rows_of}
use Rattle.files.specs.Reasons.{Reason}
use Rattle.writer.specs.Writer.{file_of}
use Rattle.contents.specs.Answers.{FileAnswer}

-- The entry and the body of block i are the writer's for that block's values.
abbrev pub Ours : (l : List ℕ) (i : ℕ) → Type 0
Ours l i = (entry_of l i ≡ (chosen (block_in l i)).entry) × (body_of l i ≡ body_for (block_in l i))

-- A file has this reason for its answer.
pub data CanonicalReason (l : List ℕ) : FileAnswer → Type 0 where
  -- The reader has a reason of its own.
  of_file : (a : FileAnswer) → a ≢ Ok tt → Reason l a → CanonicalReason l a
  -- 9: the file is readable, and of edition 1.
  first_edition : Reason l (Ok tt) → edition l ≡ 1 → CanonicalReason l (Err Edition)
  -- 17: block p is the lowest whose entry or body is not the writer's.
  a_foreign : (p : ℕ) → Reason l (Ok tt) → edition l ≡ 2 → p < count l → (Ours l p → ⊥) → ((i : ℕ) → i < p → Ours l i) → CanonicalReason l (Err (Foreign p))
  -- 0: the file's bytes are those that the writer gives for its rows.
  as_ours : Reason l (Ok tt) → edition l ≡ 2 → l ≡ file_of (rows_of l) → CanonicalReason l (Ok tt)
