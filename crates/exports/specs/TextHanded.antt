-- How a text that is read as a number, and the summary of a block, cross to a program in C or in Rust.
-- Assumes nothing.
use Rattle.std.specs.Prelude.{Ok, Err}
use Rattle.std.specs.Prelude.{◌≡◌, ℕ}
use Rattle.decimal.specs.Calls.{Parsed}
use Rattle.decimal.specs.declared.NoNumber.TheVariants.{Empty, Other, Large}
use Rattle.summary.specs.declared.Summary.{Summary}

-- What a text is read as has a number: 0 where it is a number, 1 where it has no bytes, 2 where a byte is no digit, and
-- 3 where its number is too large.
abbrev pub parsed_number : Parsed → ℕ
parsed_number (Ok n) = 0
parsed_number (Err Empty) = 1
parsed_number (Err (Other p)) = 2
parsed_number (Err Large) = 3

-- The value is what was read, and 0 where nothing was.
abbrev pub parsed_value : Parsed → ℕ
parsed_value (Ok n) = n
parsed_value (Err Empty) = 0
parsed_value (Err (Other p)) = 0
parsed_value (Err Large) = 0

-- The place is that of the byte that is no digit.
abbrev pub parsed_place : Parsed → ℕ
parsed_place (Ok n) = 0
parsed_place (Err Empty) = 0
parsed_place (Err (Other p)) = p
parsed_place (Err Large) = 0

-- All three are handed over.
pub record ParsedHanded (parsed : Parsed) (number value place : ℕ) : Type 0 where
  pub its_number : number ≡ parsed_number parsed
  pub its_value : value ≡ parsed_value parsed
  pub its_place : place ≡ parsed_place parsed

-- A summary is handed over field by field.
pub record SummaryHanded (s : Summary) (kind width length reference smallest largest : ℕ) : Type 0 where
  pub its_kind : kind ≡ s.kind
  pub its_width : width ≡ s.width
  pub its_length : length ≡ s.length
  pub its_reference : reference ≡ s.reference
  pub its_smallest : smallest ≡ s.smallest
  pub its_largest : largest ≡ s.largest
