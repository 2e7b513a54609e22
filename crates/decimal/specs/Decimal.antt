-- Numbers in decimal: the digits of a text and their number, and the digits and the text of a number. A text is a list
-- of bytes, and its digits are numbers; the first is worth the most.
-- Assumes nothing.
use Rattle.std.specs.Prelude.{List, [], ◌∷◌, ◌++◌, map, ◌≡◌, ℕ, zero, suc, ◌+◌, ◌*◌, ◌-◌, ◌/◌, ◌%◌, leb, ltb, length, get_or}
use Rattle.lists.specs.Pick.{pick}

-- This is the digit that a byte stands for, and 10 or more where it stands for none: 48 is 0, and 57 is 9.
abbrev pub digit_of : (byte : ℕ) → ℕ
digit_of b = pick (leb 48 b) (b - 48) 10

-- These are the digits of a text, one for each byte.
unfoldable pub digits_of : (text : List ℕ) → List ℕ
digits_of text = map digit_of text

-- This is the number that is read where v stands in front of the digits.
unfoldable pub value_from : (v : ℕ) (digits : List ℕ) → ℕ
value_from v [] = v
value_from v (d ∷ digits) = value_from (v * 10 + d) digits

-- This is the number of the digits.
abbrev pub value_of : (digits : List ℕ) → ℕ
value_of digits = value_from 0 digits

-- These are the digits of n: of a number below 10 it is the only one, and else the last one, n mod 10, stands behind
-- those of n / 10. It goes on at most so many times.
unfoldable pub digits_within : (times n : ℕ) → List ℕ
digits_within zero n = n ∷ []
digits_within (suc k) n = pick (ltb n 10) (n ∷ []) (digits_within k (n / 10) ++ (n % 10 ∷ []))

-- These are all digits of n, with no zero at the front but that of 0 itself: a tenth of n is gone to no more than n
-- times.
unfoldable pub digits_in : (n : ℕ) → List ℕ
digits_in n = digits_within n n

-- This is the text of n: a byte for each digit.
unfoldable pub text_of : (n : ℕ) → List ℕ
text_of n = map (λ d. 48 + d) (digits_in n)

-- A text is bare where no zero stands at its front but one that is the only byte.
abbrev pub Bare : (text : List ℕ) → Type 0
Bare text = get_or text 0 0 ≡ 48 → length text ≡ 1
