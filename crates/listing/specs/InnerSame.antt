-- Whether two files have the same block, and what is done with it then. Private steps name these; no public contract
-- does.
-- Assumes nothing.
use Rattle.std.specs.Prelude.{true, List, ◌≡◌, ℕ, ◌+◌, min}
use Rattle.places.specs.Sizes.{largest_u64}
use Rattle.contents.specs.Contents.{entry_or, has_right_entry}
use Rattle.contents.specs.Answers.{file_answer}
use Rattle.bodywise.specs.Steps.{body_tests}
use Rattle.compare.specs.Ranges.{same_range}
use Rattle.wishes.specs.declared.Side.TheVariants.{Left}
use Rattle.wishes.specs.Runs.{Given}
use Rattle.listing.specs.declared.State.{State}
use Rattle.listing.specs.Machine.{given, between, past, still_taken}

-- Entry i is right in both files and says the same, of the range too, and the body is the same.
pub record SameBody (i : ℕ) (left_front_lem right_front_lem left_body_lem right_body_lem : List ℕ) : Type 0 where
  pub left_right : has_right_entry left_front_lem i ≡ true
  pub right_right : has_right_entry right_front_lem i ≡ true
  pub entry : entry_or left_front_lem i ≡ entry_or right_front_lem i
  pub range : same_range left_front_lem right_front_lem i ≡ true
  pub body : left_body_lem ≡ right_body_lem

-- The list is behind a block that is the same in both files, where its body is as its entry says.
abbrev pub same_laid : (s : State) (left_front_lem right_front_lem left_body_lem out : List ℕ) → Given State
same_laid s left_front_lem right_front_lem left_body_lem out =
    still_taken (file_answer (body_tests left_front_lem s.number left_body_lem)) s Left out
    (given (between (past s left_front_lem right_front_lem) (min (s.differences + 0) largest_u64) 0) out)
