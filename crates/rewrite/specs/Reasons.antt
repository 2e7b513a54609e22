-- When each number of R114 is given to a rewrite, said a second time: by the reader's reasons, and in plain
-- arithmetic behind them. It guards the tests in Rewrite: that a call gets an answer exactly when it has the reason for
-- it here is a theorem.
-- Assumes nothing.
use Rattle.std.specs.Prelude.{List, ◌≢◌, ℕ, ◌≤◌, ◌<◌, length, Ok, Err}
use Rattle.contents.specs.declared.FileRefusal.TheVariants.{Room}
use Rattle.files.specs.Reasons.{Reason}
use Rattle.rewrite.specs.Rewrite.{new_file}
use Rattle.contents.specs.Answers.{FileAnswer}

-- The call has this reason for its answer.
pub data RewriteReason (l output : List ℕ) : FileAnswer → Type 0 where
  -- The file has a reason of its own, which the reader would give.
  of_file : (a : FileAnswer) → a ≢ Ok tt → Reason l a → RewriteReason l output a
  -- 14: the output is shorter than the new file.
  short_output : Reason l (Ok tt) → length output < length (new_file l) → RewriteReason l output (Err Room)
  -- 0: nothing of that.
  room_there : Reason l (Ok tt) → length (new_file l) ≤ length output → RewriteReason l output (Ok tt)
