-- The packed layout read one bit at a time (R76), over the element size t and the width w. All of it is one sentence:
--
--     bit b of row r of lane l is bit (r·w + b) mod t of word (r·w + b) / t of that lane.
--
-- Width 0 and width t have no rule of their own.
-- Assumes nothing.
use Rattle.std.specs.Prelude.{List, ◌≡◌, ℕ, zero, suc, ◌+◌, ◌-◌, ◌*◌, ◌/◌, ◌%◌, ◌<◌, eqb, length, get_or}
use Rattle.lists.specs.Numbers.{number, digit}
use Rattle.lists.specs.Pick.{pick}
use Rattle.lists.specs.Tab.{tab}
use Rattle.places.specs.Places.{place, lane, row}
use Rattle.places.specs.Sizes.{lanes}

-- Bit i of a number is its digit i, with one bit to a digit.
abbrev pub bit : (m i : ℕ) → ℕ
bit m i = digit 1 m i

-- Bit b of row r stands in this word of its lane.
abbrev pub word_of : (t w r b : ℕ) → ℕ
word_of t w r b = (r * w + b) / t

-- This is the sentence. Word k of lane l stands at LANES·k + l of the packed block.
unfoldable pub bit_at : (t w : ℕ) (packed : List ℕ) (l r b : ℕ) → ℕ
bit_at t w packed l r b = bit (get_or packed (lanes t * word_of t w r b + l) 0) ((r * w + b) % t)

-- The value of row r of lane l is made of its w bits, the lowest first.
unfoldable pub value_in : (t w : ℕ) (packed : List ℕ) (l r : ℕ) → ℕ
value_in t w packed l r = number 1 (bit_at t w packed l r) w

-- The value at place p is that of its row and its lane.
unfoldable pub plain_value : (t w : ℕ) (packed : List ℕ) (p : ℕ) → ℕ
plain_value t w packed p = value_in t w packed (lane t p) (row t p)

-- The unpacked block has the value of each of the 1,024 places.
unfoldable pub plain_unpack : (t w : ℕ) (packed : List ℕ) → List ℕ
plain_unpack t w packed = tab 1024 (plain_value t w packed)

-- Read the other way round the sentence says what bit j of word k of lane l is: r·w + b is k·t + j there, so it is bit
-- (k·t + j) mod w of row (k·t + j) / w. Where there are words at all, w is not 0.
unfoldable pub bit_of : (t w : ℕ) (values : List ℕ) (l k j : ℕ) → ℕ
bit_of t w values l k j = bit (get_or values (place ((k * t + j) / w) l) 0) ((k * t + j) % w)

-- Word k of lane l is made of its t bits, the lowest first.
unfoldable pub word_in : (t w : ℕ) (values : List ℕ) (l k : ℕ) → ℕ
word_in t w values l k = number 1 (bit_of t w values l k) t

-- The packed block has LANES · w words. Entry i is word i / LANES of lane i mod LANES.
unfoldable pub plain_pack : (t w : ℕ) (values : List ℕ) → List ℕ
plain_pack t w values = tab (lanes t * w) (λ i. word_in t w values (i % lanes t) (i / lanes t))

-- A packed block is laid out as the sentence says, for these values, where each bit of each row of each lane is the bit
-- of the value there. That the block above is laid out so, and no other block of numbers of t bits is, is a law.
pub record Laid (t w : ℕ) (values packed : List ℕ) : Type 0 where
  pub whole : length packed ≡ lanes t * w
  pub bits : (l r b : ℕ) → l < lanes t → r < t → b < w → bit_at t w packed l r b ≡ bit (get_or values (place r l) 0) b

-- Bit b of row r comes from a word that no bit before it came from where it is the first one, or the bit before it came
-- from another word: then this is 1, and else 0.
unfoldable pub new_word_lem : (t w r b : ℕ) → ℕ
new_word_lem t w r b = pick (eqb b 0) 1 (pick (eqb (word_of t w r b) (word_of t w r (b - 1))) 0 1)

-- So the first n bits of row r come from this many words.
unfoldable pub words_for : (t w r n : ℕ) → ℕ
words_for t w r zero = 0
words_for t w r (suc n) = words_for t w r n + new_word_lem t w r n

-- The value at place p comes from as many words as the w bits of its row do.
unfoldable pub plain_count : (t w p : ℕ) → ℕ
plain_count t w p = words_for t w (row t p) w
