-- What a text is read as, said a second time: in plain arithmetic, without a test or a search. It guards the
-- definitions of Decimal and Calls: that a text is read as something exactly when it has the reason for it here is a
-- theorem.
-- Assumes nothing.
use Rattle.std.specs.Prelude.{Ok, Err}
use Rattle.std.specs.Prelude.{List, [], ◌∷◌, ◌≡◌, ℕ, ◌+◌, ◌*◌, ◌-◌, ◌^◌, ◌≤◌, ◌<◌, length, get_or}
use Rattle.decimal.specs.Calls.{Parsed}
use Rattle.decimal.specs.declared.NoNumber.TheVariants.{Empty, Other, Large}

-- A byte is a digit where it is from 48 to 57.
abbrev pub IsDigit : (byte : ℕ) → Type 0
IsDigit b = (48 ≤ b) × (b ≤ 57)

-- Every byte before place p is a digit.
abbrev pub Digits : (text : List ℕ) (p : ℕ) → Type 0
Digits text p = (i : ℕ) → i < p → IsDigit (get_or text i 0)

-- Each digit counts as often as a power of ten says: the last once, the one before it ten times.
unfoldable pub sum_of : (text : List ℕ) → ℕ
sum_of [] = 0
sum_of (b ∷ text) = (b - 48) * 10 ^ length text + sum_of text

-- The reason that a text has to be read as this.
abbrev pub Reason : (text : List ℕ) → Parsed → Type 0
Reason text (Err Empty) = length text ≡ 0
Reason text (Err (Other p)) = (p < length text) × (IsDigit (get_or text p 0) → ⊥) × Digits text p
Reason text (Ok n) = (0 < length text) × Digits text (length text) × (n < 18446744073709551616) × (n ≡ sum_of text)
Reason text (Err Large) = (0 < length text) × Digits text (length text) × (18446744073709551616 ≤ sum_of text)
