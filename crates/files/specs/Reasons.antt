-- When each number of R90 is given to a file, said a second time: in plain arithmetic, without a test or a search, in
-- the order of that rule. It guards the chain of tests in Files: that a file gets an answer exactly when it has the
-- reason for it here is a theorem.
-- Assumes nothing.
use Rattle.std.specs.Prelude.{◌≡◌, ℕ, ◌-◌, ◌*◌, ◌/◌, ◌<◌, ◌≤◌, ◌≢◌, ◌⊎◌, List, length, Ok, Err}
use Rattle.lists.specs.Ends.{highest_of, lowest_of}
use Rattle.little.specs.Little.{little}
use Rattle.contents.specs.declared.Entry.{Entry}
use Rattle.contents.specs.declared.FileRefusal.TheVariants.{Block, Cut, Edition, BadEntry, Over, Beyond, Runs, Range}
use Rattle.contents.specs.Contents.{edition, count, contents_size, entry_of, range_of, body_start}
use Rattle.contents.specs.Reasons.{LaidOut, TakenIn}
use Rattle.files.specs.Files.{body_of, block_in, row_count}
use Rattle.contents.specs.Answers.{FileAnswer}

-- In a body of runs every run index is below the number of run values.
abbrev pub GoodRuns : (e : Entry) (body : List ℕ) → Type 0
GoodRuns e body = (e.kind ≡ 3) → (i : ℕ) → i < 1024 → little body (i * 2) 2 < (e.length - 2048) / 8

-- In edition 2 the smallest and the largest value that entry i says are those of its block. An edition 1 file says
-- none.
abbrev pub TrueRange : (l : List ℕ) (i : ℕ) → Type 0
TrueRange l i = edition l ≡ 2 → ((range_of l i).smallest ≡ lowest_of (block_in l i)) × ((range_of l i).largest ≡ highest_of (block_in l i))

-- The edition is 1 or 2.
abbrev pub Known : (l : List ℕ) → Type 0
Known l = (edition l ≡ 1) ⊎ (edition l ≡ 2)

-- The edition is 1 or 2, there are at most 256 blocks, and all entries are there.
pub record Headed (l : List ℕ) : Type 0 where
  pub head : 4 ≤ length l
  pub first : Known l
  pub few : count l ≤ 256
  pub room : contents_size (edition l) (count l) ≤ length l

-- Entry i is as laid out, its kind is one that the edition takes, and its smallest value is not above its largest. In
-- edition 1 every kind is taken and its range is from 0 to the highest number of 64 bits, so that the last two hold of
-- themselves.
abbrev pub EntryRight : (l : List ℕ) (i : ℕ) → Type 0
EntryRight l i = LaidOut (entry_of l i) × (TakenIn (edition l) (entry_of l i) × ((range_of l i).smallest ≤ (range_of l i).largest))

-- The entries below n are right.
abbrev pub RightTo : (l : List ℕ) (n : ℕ) → Type 0
RightTo l n = (i : ℕ) → i < n → EntryRight l i

-- The blocks below n have run indices in range.
abbrev pub GoodTo : (l : List ℕ) (n : ℕ) → Type 0
GoodTo l n = (i : ℕ) → i < n → GoodRuns (entry_of l i) (body_of l i)

-- The blocks below n have the range that their entry says.
abbrev pub TrueTo : (l : List ℕ) (n : ℕ) → Type 0
TrueTo l n = (i : ℕ) → i < n → TrueRange l i

-- The contents are right, and the bodies end where the file does.
pub record Right (l : List ℕ) : Type 0 where
  pub headed : Headed l
  pub entries : RightTo l (count l)
  pub end : body_start l (count l) ≡ length l

-- A file has this reason for its answer.
pub data Reason (l : List ℕ) : FileAnswer → Type 0 where
  -- 8: there are fewer than 4 bytes.
  short_head : length l < 4 → Reason l (Err Cut)
  -- 9: the edition is neither 1 nor 2, or there are more than 256 blocks.
  other_edition : 4 ≤ length l → ((edition l ≢ 1) × (edition l ≢ 2)) ⊎ (256 < count l) → Reason l (Err Edition)
  -- 8: the entries are cut short.
  short_entries : 4 ≤ length l → Known l → count l ≤ 256 → length l < contents_size (edition l) (count l) → Reason l (Err Cut)
  -- 10: entry p is the lowest that is not right.
  of_bad_entry : (p : ℕ) → Headed l → p < count l → (EntryRight l p → ⊥) → RightTo l p → Reason l (Err (BadEntry p))
  -- 8: the bodies are cut short.
  short_bodies : Headed l → RightTo l (count l) → length l < body_start l (count l) → Reason l (Err Cut)
  -- 11: bytes are left over.
  left_over : Headed l → RightTo l (count l) → body_start l (count l) < length l → Reason l (Err Over)
  -- 13: block p is the lowest with a run index out of range.
  of_bad_runs : (p : ℕ) → Right l → p < count l → (GoodRuns (entry_of l p) (body_of l p) → ⊥) → GoodTo l p → Reason l (Err (Runs p))
  -- 15: block p is the lowest whose range is not the one that its entry says.
  of_bad_range : (p : ℕ) → Right l → GoodTo l (count l) → p < count l → (TrueRange l p → ⊥) → TrueTo l p → Reason l (Err (Range p))
  -- 0: nothing of that.
  none : Right l → GoodTo l (count l) → TrueTo l (count l) → Reason l (Ok tt)

-- One block out has this reason for its answer: the output comes first, and a block number that is too high last.
pub data BlockReason (l : List ℕ) (b : ℕ) (output : List ℕ) : FileAnswer → Type 0 where
  -- 2: the output is not 1,024 long.
  bad_output : length output ≢ 1024 → BlockReason l b output (Err Block)
  -- The file has a reason of its own.
  of_file_block : (a : FileAnswer) → length output ≡ 1024 → a ≢ Ok tt → Reason l a → BlockReason l b output a
  -- 12: there is no block with this number.
  no_block : length output ≡ 1024 → Reason l (Ok tt) → count l ≤ b → BlockReason l b output (Err Beyond)
  -- 0: nothing of that.
  block_there : length output ≡ 1024 → Reason l (Ok tt) → b < count l → BlockReason l b output (Ok tt)

-- The lookup of a row has this reason for its answer.
pub data RowReason (l : List ℕ) (p : ℕ) : FileAnswer → Type 0 where
  -- The file has a reason of its own.
  of_file_row : (a : FileAnswer) → a ≢ Ok tt → Reason l a → RowReason l p a
  -- 12: there is no row with this number.
  no_row : Reason l (Ok tt) → row_count l ≤ p → RowReason l p (Err Beyond)
  -- 0: nothing of that.
  row_there : Reason l (Ok tt) → p < row_count l → RowReason l p (Ok tt)
