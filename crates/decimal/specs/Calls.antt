-- What the calls on numbers in decimal give, and what they leave in a lent buffer.
-- Assumes nothing.
use Rattle.std.specs.Prelude.{Result, Ok, Err}
use Rattle.std.specs.Prelude.{List, ℕ, eqb, leb, ltb, length}
use Rattle.lists.specs.Pick.{pick}
use Rattle.lists.specs.Search.{first_beyond}
use Rattle.lists.specs.Tab.{over}
use Rattle.decimal.specs.declared.NoNumber.{NoNumber}
use Rattle.decimal.specs.declared.NoNumber.TheVariants.{Empty, Other, Large}
use Rattle.decimal.specs.Decimal.{digits_of, value_of, text_of}

-- What a text is read as: a number, or why it is none.
abbrev pub Parsed : Type 0
Parsed = Result ℕ NoNumber

-- The number of the digits, where it is one of 64 bits.
abbrev pub number_or : (digits : List ℕ) → Parsed
number_or digits = pick (ltb (value_of digits) 18446744073709551616) (Ok (value_of digits)) (Err Large)

-- A text with a byte that is no digit is read as Other, with the lowest such place; a text of digits alone as its
-- number.
abbrev pub digits_or : (digits : List ℕ) → Parsed
digits_or digits = pick (ltb (first_beyond 10 digits) (length digits)) (Err (Other (first_beyond 10 digits))) (number_or digits)

-- What a text is read as.
abbrev pub parsed_of : (text : List ℕ) → Parsed
parsed_of text = pick (eqb (length text) 0) (Err Empty) (digits_or (digits_of text))

-- How many bytes are laid of the text of n: all of them, or none where they do not fit.
abbrev pub laid_of : (n : ℕ) (out : List ℕ) → ℕ
laid_of n out = pick (leb (length (text_of n)) (length out)) (length (text_of n)) 0

-- What the output holds then: the text at its front, and behind it what was there.
abbrev pub lay_leaves : (n : ℕ) (out : List ℕ) → List ℕ
lay_leaves n out = pick (leb (length (text_of n)) (length out)) (over 0 (text_of n) out) out
