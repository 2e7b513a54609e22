-- The packed layout (R28 to R32), over the element size t and the width w.
-- Assumes nothing.
use Rattle.std.specs.Prelude.{List, ℕ, ◌*◌, ◌+◌, ◌/◌, ◌%◌, ◌^◌, get_or}
use Rattle.lists.specs.Numbers.{number, digit}
use Rattle.lists.specs.Tab.{tab}
use Rattle.places.specs.Places.{place, lane, row}
use Rattle.places.specs.Sizes.{lanes}

-- Word k of lane l stands at LANES·k + l of the packed block.
unfoldable pub word : (t : ℕ) (packed : List ℕ) (l k : ℕ) → ℕ
word t packed l k = get_or packed (lanes t * k + l) 0

-- What row r gives to the number of lane l is its value there modulo 2^w.
unfoldable pub part : (w : ℕ) (values : List ℕ) (l r : ℕ) → ℕ
part w values l r = get_or values (place r l) 0 % 2 ^ w

-- On the packed side the number of lane l has the lane's w words as digits of t bits.
unfoldable pub words_number : (t w : ℕ) (packed : List ℕ) (l : ℕ) → ℕ
words_number t w packed l = number t (word t packed l) w

-- On the values' side the number of lane l has the lane's t values modulo 2^w as digits of w bits.
unfoldable pub values_number : (t w : ℕ) (values : List ℕ) (l : ℕ) → ℕ
values_number t w values l = number w (part w values l) t

-- In the packed block the words of each lane, as digits of t bits, make the values' number. Entry i is word i / LANES
-- of lane i mod LANES.
unfoldable pub word_at : (t w : ℕ) (values : List ℕ) (i : ℕ) → ℕ
word_at t w values i = digit t (values_number t w values (i % lanes t)) (i / lanes t)

-- The packed block has LANES · w words.
unfoldable pub pack_of : (t w : ℕ) (values : List ℕ) → List ℕ
pack_of t w values = tab (lanes t * w) (word_at t w values)

-- The value at place p is the digit that the number of its lane holds at its row.
unfoldable pub value_at : (t w : ℕ) (packed : List ℕ) (p : ℕ) → ℕ
value_at t w packed p = digit w (words_number t w packed (lane t p)) (row t p)

-- The unpacked block has the value of each of the 1,024 places.
unfoldable pub unpack_of : (t w : ℕ) (packed : List ℕ) → List ℕ
unpack_of t w packed = tab 1024 (value_at t w packed)
