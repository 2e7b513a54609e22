-- When each number of R105 is given to a write, said a second time: in plain arithmetic, in the order of that rule. It
-- guards the tests in Writer: that a call gets an answer exactly when it has the reason for it here is a theorem.
-- Assumes nothing.
use Rattle.std.specs.Prelude.{List, ◌≡◌, ℕ, ◌*◌, ◌≤◌, ◌<◌, length, Ok, Err}
use Rattle.contents.specs.declared.FileRefusal.TheVariants.{Block, Room}
use Rattle.writer.specs.Writer.{file_of}
use Rattle.contents.specs.Answers.{FileAnswer}

-- There are 1,024 numbers for each of n blocks, and at most 256 blocks.
pub record Blocks (values : List ℕ) : Type 0 where
  pub n : ℕ
  pub whole : length values ≡ n * 1024
  pub few : n ≤ 256

-- The call has this reason for its answer.
pub data WriteReason (values output : List ℕ) : FileAnswer → Type 0 where
  -- 2: the numbers are not whole blocks, or more than 256 of them.
  no_blocks : (Blocks values → ⊥) → WriteReason values output (Err Block)
  -- 14: the output is shorter than the file.
  short_output : Blocks values → length output < length (file_of values) → WriteReason values output (Err Room)
  -- 0: nothing of that.
  room_there : Blocks values → length (file_of values) ≤ length output → WriteReason values output (Ok tt)
