-- What is listed of two files, said a second time: every row in both whose numbers differ is there, with both numbers,
-- no other is, and the rows rise, so that none is there twice. It guards the list in Changes; that the list is so is a
-- theorem.
-- Assumes nothing.
use Rattle.std.specs.Prelude.{List, ◌≢◌, ◌≡◌, ℕ, ◌*◌, ◌<◌, length, get_or}
use Rattle.contents.specs.Contents.{count}
use Rattle.files.specs.Files.{row_at}
use Rattle.compare.specs.declared.Change.{Change}

-- A row is in both files.
pub record InBoth (l m : List ℕ) (p : ℕ) : Type 0 where
  pub in_left : p < count l * 1024
  pub in_right : p < count m * 1024

-- Where there is no change, this stands for one.
abbrev pub no_change : Change
no_change = record { row = 0; left = 0; right = 0 }

-- Row p stands in the list, with both numbers.
pub record Listed (l m : List ℕ) (list : List Change) (p : ℕ) : Type 0 where
  pub at : ℕ
  pub within : at < length list
  pub is : get_or list at no_change ≡ record { row = p; left = row_at l p; right = row_at m p }

-- The list has every row that differs, once, rising, and no equal one.
pub record Lists (l m : List ℕ) (list : List Change) : Type 0 where
  pub complete : (p : ℕ) → InBoth l m p → row_at l p ≢ row_at m p → Listed l m list p
  pub in_both : (k : ℕ) → k < length list → InBoth l m (get_or list k no_change).row
  pub left_is : (k : ℕ) → k < length list → (get_or list k no_change).left ≡ row_at l (get_or list k no_change).row
  pub right_is : (k : ℕ) → k < length list → (get_or list k no_change).right ≡ row_at m (get_or list k no_change).row
  pub unequal : (k : ℕ) → k < length list → (get_or list k no_change).left ≢ (get_or list k no_change).right
  pub rising : (j k : ℕ) → j < k → k < length list → (get_or list j no_change).row < (get_or list k no_change).row
