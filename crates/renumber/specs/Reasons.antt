-- When each number of R135 is given to a renumbering, said a second time: by the reader's reasons, and in plain
-- arithmetic behind them, without a test or a search. It guards the tests in Renumber: that a call gets an answer
-- exactly when it has the reason for it here is a theorem.
-- Assumes nothing.
use Rattle.std.specs.Prelude.{List, ◌⊎◌, ◌≢◌, ◌≡◌, ℕ, ◌-◌, ◌≤◌, ◌<◌, length, get_or, Ok, Err}
use Rattle.lists.specs.Members.{Stands}
use Rattle.contents.specs.declared.FileRefusal.TheVariants.{Room}
use Rattle.files.specs.Files.{row_count, row_at}
use Rattle.files.specs.Reasons.{Reason}
use Rattle.renumber.specs.declared.RenumberRefusal.TheVariants.{File, Lengths, Unrising, Disordered, Twice, Taken}
use Rattle.renumber.specs.Renumber.{RenumberAnswer, from_file, new_file}
use Rattle.contents.specs.Answers.{FileAnswer}

-- The three lists are of one length.
abbrev pub OneLength : (old new order : List ℕ) → Type 0
OneLength old new order = (length new ≡ length old) × (length order ≡ length old)

-- From place 1 on the number at place i is above the one before it.
abbrev pub RisesAt : (xs : List ℕ) (i : ℕ) → Type 0
RisesAt xs i = 0 < i → get_or xs (i - 1) 0 < get_or xs i 0

-- Pair q comes behind pair p: its new number is above that of p, or is equal to it and q is above p.
abbrev pub Behind : (new : List ℕ) (p q : ℕ) → Type 0
Behind new p q = (get_or new p 0 < get_or new q 0) ⊎ ((get_or new p 0 ≡ get_or new q 0) × (p < q))

-- Place i of the order says a pair that is there, and from place 1 on one that comes behind the pair before it.
abbrev pub OrderedAt : (new order : List ℕ) (i : ℕ) → Type 0
OrderedAt new order i = (get_or order i 0 < length new) × (0 < i → Behind new (get_or order (i - 1) 0) (get_or order i 0))

-- The number at place p stands at no other place.
abbrev pub Alone : (xs : List ℕ) (p : ℕ) → Type 0
Alone xs p = (q : ℕ) → q < length xs → q ≢ p → get_or xs q 0 ≢ get_or xs p 0

-- The number x is listed, or it does not stand among the new ones.
abbrev pub Free : (old new : List ℕ) (x : ℕ) → Type 0
Free old new x = Stands x old ⊎ (Stands x new → ⊥)

-- What the lists have to be.
pub record ListsRight (old new order : List ℕ) : Type 0 where
  pub lengths : OneLength old new order
  pub rises : (i : ℕ) → i < length old → RisesAt old i
  pub ordered : (i : ℕ) → i < length order → OrderedAt new order i
  pub alone : (i : ℕ) → i < length new → Alone new i

-- The call has this reason for its answer.
pub data RenumberReason (l old new order output : List ℕ) : RenumberAnswer → Type 0 where
  -- The file has a reason of its own, which the reader would give.
  of_file : (a : FileAnswer) → a ≢ Ok tt → Reason l a → RenumberReason l old new order output (from_file a)
  -- 18: the lists are not of one length.
  other_lengths : Reason l (Ok tt) → (OneLength old new order → ⊥) → RenumberReason l old new order output (Err Lengths)
  -- 19: p is the lowest place from 1 on whose old number is not above the one before it.
  unrising : (p : ℕ) → Reason l (Ok tt) → OneLength old new order → p < length old → 0 < p → get_or old p 0 ≤ get_or old (p - 1) 0
      → ((i : ℕ) → i < p → RisesAt old i) → RenumberReason l old new order output (Err (Unrising p))
  -- 20: p is the lowest place of the order that is not right.
  disordered : (p : ℕ) → Reason l (Ok tt) → OneLength old new order → ((i : ℕ) → i < length old → RisesAt old i)
      → p < length order → (OrderedAt new order p → ⊥) → ((i : ℕ) → i < p → OrderedAt new order i)
      → RenumberReason l old new order output (Err (Disordered p))
  -- 21: p is the lowest place whose new number stands at another place q too.
  twice : (p q : ℕ) → Reason l (Ok tt) → OneLength old new order → ((i : ℕ) → i < length old → RisesAt old i)
      → ((i : ℕ) → i < length order → OrderedAt new order i) → p < length new → q < length new → q ≢ p → get_or new q 0 ≡ get_or new p 0
      → ((i : ℕ) → i < p → Alone new i) → RenumberReason l old new order output (Err (Twice p))
  -- 22: p is the lowest row whose number is not listed and stands among the new numbers.
  taken : (p : ℕ) → Reason l (Ok tt) → ListsRight old new order → p < row_count l → (Stands (row_at l p) old → ⊥) → Stands (row_at l p) new
      → ((i : ℕ) → i < p → Free old new (row_at l i)) → RenumberReason l old new order output (Err (Taken p))
  -- 14: the output is shorter than the new file.
  short_output : Reason l (Ok tt) → ListsRight old new order → ((i : ℕ) → i < row_count l → Free old new (row_at l i))
      → length output < length (new_file old new l) → RenumberReason l old new order output (Err (File Room))
  -- 0: nothing of that.
  room_there : Reason l (Ok tt) → ListsRight old new order → ((i : ℕ) → i < row_count l → Free old new (row_at l i))
      → length (new_file old new l) ≤ length output → RenumberReason l old new order output (Ok tt)
