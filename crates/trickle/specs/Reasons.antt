-- When each number is given to an ask (R75), said a second time: in plain arithmetic on the fields of the state,
-- without a test and without what the state counts as. It guards the tests in Trickle: that an ask gets an answer
-- exactly when it has the reason for it here is a theorem.
-- Assumes nothing.
use Rattle.std.specs.Prelude.{List, ◌≢◌, ◌≡◌, ℕ, ◌*◌, ◌≤◌, ◌<◌, length}
use Rattle.trickle.specs.declared.State.{State}
use Rattle.trickle.specs.declared.TrickleAnswer.{TrickleAnswer}
use Rattle.trickle.specs.declared.TrickleAnswer.TheVariants.{Done, Block, Early}

-- An ask has this reason for its answer.
pub data Reason (s : State) (output : List ℕ) : TrickleAnswer → Type 0 where
  -- 2: the output is not 1,024 long.
  no_block : length output ≢ 1024 → Reason s output Block
  -- 16: fewer bytes are held than the body has, and the place is how many.
  early : length output ≡ 1024 → s.width ≤ 64 → s.held < 128 * s.width → Reason s output (Early s.held)
  -- 0: the body is all there,
  whole : length output ≡ 1024 → s.width ≤ 64 → s.held ≡ 128 * s.width → Reason s output Done
  -- or the state counts as that of width 0, since its width is above 64
  wide : length output ≡ 1024 → 64 < s.width → Reason s output Done
  -- or it holds more bytes than the body has.
  overfull : length output ≡ 1024 → 128 * s.width < s.held → Reason s output Done
