-- When each number of a search is given, said a second time: in plain arithmetic, without a search for the lowest, in
-- the order of R110. How many rows there are to list is taken from Search. It guards the tests there: that a search
-- gets an answer exactly when it has the reason for it here is a theorem.
-- Assumes nothing.
use Rattle.std.specs.Prelude.{◌≡◌, ℕ, ◌<◌, ◌≤◌, ◌⊎◌, List, length, Ok, Err}
use Rattle.contents.specs.declared.FileRefusal.TheVariants.{Runs, Room, Range as FalseRange}
use Rattle.contents.specs.declared.Range.{Range}
use Rattle.contents.specs.Answers.{FileAnswer, number_of}
use Rattle.contents.specs.Contents.{edition, count, entry_of, range_of}
use Rattle.files.specs.Files.{body_of, row_count, row_at}
use Rattle.files.specs.Reasons.{GoodRuns, TrueRange, Right, Reason}
use Rattle.search.specs.Search.{found}

-- A range and the bounds have a number in common.
pub record Common (r : Range) (low high : ℕ) : Type 0 where
  pub number : ℕ
  pub above_smallest : r.smallest ≤ number
  pub below_largest : number ≤ r.largest
  pub above_low : low ≤ number
  pub below_high : number ≤ high

-- Block i is opened where its range and the bounds have a number in common, or the edition is 1.
abbrev pub Opened : (l : List ℕ) (low high i : ℕ) → Type 0
Opened l low high i = (edition l ≡ 1) ⊎ Common (range_of l i) low high

-- The opened blocks below n have run indices in range.
abbrev pub OpenedGood : (l : List ℕ) (low high n : ℕ) → Type 0
OpenedGood l low high n = (i : ℕ) → i < n → Opened l low high i → GoodRuns (entry_of l i) (body_of l i)

-- The opened blocks below n have the range that their entry says.
abbrev pub OpenedTrue : (l : List ℕ) (low high n : ℕ) → Type 0
OpenedTrue l low high n = (i : ℕ) → i < n → Opened l low high i → TrueRange l i

-- A search has this reason for its answer.
pub data SearchReason (l : List ℕ) (low high : ℕ) (rows : List ℕ) : FileAnswer → Type 0 where
  -- 8 to 11: the contents have a reason of their own, as the reader has it.
  of_contents : (a : FileAnswer) → Reason l a → 8 ≤ number_of a → number_of a ≤ 11 → SearchReason l low high rows a
  -- 13: block p is the lowest opened one with a run index out of range.
  opened_runs : (p : ℕ) → Right l → p < count l → Opened l low high p → (GoodRuns (entry_of l p) (body_of l p) → ⊥) → OpenedGood l low high p
      → SearchReason l low high rows (Err (Runs p))
  -- 15: block p is the lowest opened one whose range is not the one that its entry says.
  opened_range : (p : ℕ) → Right l → OpenedGood l low high (count l) → p < count l → Opened l low high p → (TrueRange l p → ⊥) → OpenedTrue l low high p
      → SearchReason l low high rows (Err (FalseRange p))
  -- 14: there is no room for the rows.
  short_room : Right l → OpenedGood l low high (count l) → OpenedTrue l low high (count l) → length rows < length (found l low high)
      → SearchReason l low high rows (Err Room)
  -- 0: nothing of that.
  rows_there : Right l → OpenedGood l low high (count l) → OpenedTrue l low high (count l) → length (found l low high) ≤ length rows
      → SearchReason l low high rows (Ok tt)

-- Row p of the file lies between the bounds.
abbrev pub RowBetween : (l : List ℕ) (low high p : ℕ) → Type 0
RowBetween l low high p = (p < row_count l) × ((low ≤ row_at l p) × (row_at l p ≤ high))
