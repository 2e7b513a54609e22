-- The cases P1 to P11 (R150): the kinds of case, what it means that a case holds, and the one list of them. Each
-- meaning is said over the definitions that the contracts of the public calls name, and of every block that the case
-- speaks of.
-- Assumes nothing.
use Rattle.std.specs.Prelude.{List, [], ◌∷◌, ◌≡◌, ℕ, ◌*◌, ◌<◌, length, get_or}
use Rattle.lists.specs.Numbers.{minus, Elements}
use Rattle.places.specs.declared.Answer.TheVariants.{Done}
use Rattle.places.specs.Places.{place, lane, row, source}
use Rattle.places.specs.Sizes.{t8, t16, t32, t64, lanes}
use Rattle.places.specs.Takes.{answer_for}
use Rattle.places.specs.Transposes.{transpose_leaves, untranspose_leaves}
use Rattle.packing.specs.Calls.{pack_leaves}
use Rattle.access.specs.declared.Single.TheVariants.{Value, Refused}
use Rattle.access.specs.Calls.{single_of}
use Rattle.deltas.specs.Calls.{delta_leaves, for_pack_leaves, unfor_pack_leaves}
use Rattle.runs.specs.Calls.{decode_takes, decode_leaves}
use Rattle.bits.specs.Bits.{bit, goes_to, transpose_bits_of}

-- This is a number with the place of a list at which it stands.
pub record Mark : Type 0 where
  pub shows : ℕ
  pub spot : ℕ

-- It is written n at p.
abbrev pub ◌at◌ : (n p : ℕ) → Mark
n at p = record { shows = n; spot = p }

infix 75 ◌at◌
-- Each of these numbers stands at its place of the list x.
abbrev pub Holding : (x : List ℕ) → List Mark → Type 0
Holding x [] = Unit
Holding x (e ∷ es) = (get_or x e.spot 0 ≡ e.shows) × Holding x es

-- These are the numbers of a block: some at its front, and then one number to the end.
pub record Stretch : Type 0 where
  pub front : List ℕ
  pub rest : ℕ

-- They are written f then_on n.
abbrev pub ◌then_on◌ : (f : List ℕ) (n : ℕ) → Stretch
f then_on n = record { front = f; rest = n }

infix 60 ◌then_on◌
-- The block of 1,024 numbers is this stretch.
abbrev pub Whole : (block : List ℕ) (s : Stretch) → Type 0
Whole block s = (i : ℕ) → i < 1024 → get_or block i 0 ≡ get_or s.front i s.rest

-- The first rows of lane l of the block hold these numbers.
abbrev pub Rows : (block : List ℕ) (l : ℕ) (rows : List ℕ) → Type 0
Rows block l rows = (r : ℕ) → r < length rows → get_or block (place r l) 0 ≡ get_or rows r 0

-- Two lists hold the same at each of these places.
abbrev pub SameAt : (places x y : List ℕ) → Type 0
SameAt [] x y = Unit
SameAt (k ∷ ks) x y = (get_or x k 0 ≡ get_or y k 0) × SameAt ks x y

-- Single access at place p needs the word at k: there are two packed blocks that differ in that word alone and give
-- different answers.
pub record Needed (t w p k : ℕ) : Type 0 where
  pub one : List ℕ
  pub other : List ℕ
  pub one_fits : (length one ≡ lanes t * w) × Elements t one
  pub other_fits : (length other ≡ lanes t * w) × Elements t other
  pub same : (i : ℕ) → (i ≡ k → ⊥) → get_or one i 0 ≡ get_or other i 0
  pub apart : single_of Value Refused t w one p ≡ single_of Value Refused t w other p → ⊥

-- The statement holds of each number of the list.
abbrev pub Each : (P : ℕ → Type 0) → List ℕ → Type 0
Each P [] = Unit
Each P (k ∷ ks) = P k × Each P ks

-- These are the kinds of case. A case carries the numbers that R150 gives for it.
pub data Case : Type 0 where
  -- At element size t, row r of lane l stands at place p.
  stands : (t r l p : ℕ) → Case
  -- Place i has the source j.
  comes : (i j : ℕ) → Case
  -- Lane l, with these numbers in its rows, is packed at width w to these words.
  packs : (t w l : ℕ) (rows : List ℕ) (words : List Mark) → Case
  -- With these packed words, single access at place p gives the value, from the words at these places, and says how
  -- many they are.
  reads : (t w : ℕ) (words : List Mark) (p value : ℕ) (from : List ℕ) → Case
  -- The value minus the reference is the difference, and from a frame that is packed at width w comes back the result.
  frames : (t w value reference difference result : ℕ) → Case
  -- A lane with this base, and these numbers in its first rows, has these differences.
  steps : (t base : ℕ) (rows differences : List ℕ) → Case
  -- These values, made of two numbers, and these indices are decoded to this block.
  runs : (values : ℕ → ℕ → List ℕ) (indices : Stretch) (block : ℕ → ℕ → Stretch) → Case
  -- The bit transpose for size t moves input bit p to output bit q.
  moves : (t p q : ℕ) → Case

-- This is what it means that a case holds. A buffer that a call writes may have held anything of the right length.
unfoldable pub Holds : Case → Type 0
-- There are such a row and such a lane, the formula gives their place, and the place gives the row and the lane back.
Holds (stands t r l p) = (r < t) × (l < lanes t) × (place r l ≡ p) × (row t p ≡ r) × (lane t p ≡ l)
-- In every block, transpose leaves at i what it finds at j, and untranspose leaves at j what it finds at i.
Holds (comes i j) =
    (source i ≡ j)
    × ((input output : List ℕ) → length input ≡ 1024 → length output ≡ 1024
    → (get_or (transpose_leaves input output) i 0 ≡ get_or input j 0) × (get_or (untranspose_leaves input output) j 0 ≡ get_or input i 0))
-- Whatever the other lanes hold, pack leaves these words.
Holds (packs t w l rows words) =
    (values packed : List ℕ) → length values ≡ 1024 → length packed ≡ lanes t * w
    → Rows values l rows → Holding (pack_leaves t w values packed) words
-- Whatever the other words are, single access gives the value and the number of its words. What it gives depends on no
-- other words than those named, and on each of them.
Holds (reads t w words p value from) =
    ((packed : List ℕ) → length packed ≡ lanes t * w → Holding packed words → single_of Value Refused t w packed p ≡ Value value (length from))
    × ((x y : List ℕ) → length x ≡ lanes t * w → length y ≡ lanes t * w → SameAt from x y
    → single_of Value Refused t w x p ≡ single_of Value Refused t w y p)
    × Each (Needed t w p) from
-- Wherever in a block the value stands, unfor_pack after for_pack leaves the result there.
Holds (frames t w value reference difference result) =
    (minus t value reference ≡ difference)
    × ((values packed output : List ℕ) → length values ≡ 1024 → length packed ≡ lanes t * w → length output ≡ 1024
    → (p : ℕ) → p < 1024 → get_or values p 0 ≡ value
    → get_or (unfor_pack_leaves t w output (for_pack_leaves t w values packed reference) reference) p 0 ≡ result)
-- In whichever lane the base and the rows stand, delta leaves the differences in these rows.
Holds (steps t base rows differences) =
    (values bases output : List ℕ) → length values ≡ 1024 → length bases ≡ lanes t → length output ≡ 1024
    → (l : ℕ) → l < lanes t → get_or bases l 0 ≡ base → Rows values l rows → Rows (delta_leaves t values bases output) l differences
-- Whichever the two numbers are, decode takes the values and the indices, and leaves the block.
Holds (runs values indices block) =
    (a b : ℕ) (places output : List ℕ) → length places ≡ 1024 → length output ≡ 1024 → Whole places indices
    → (answer_for (decode_takes (values a b) places output) ≡ Done) × Whole (decode_leaves (values a b) places output) (block a b)
-- Bit p goes to bit q, and in the transpose of every list of numbers bit q is bit p of the list.
Holds (moves t p q) = (goes_to t p ≡ q) × ((b : List ℕ) → bit (transpose_bits_of t b) q ≡ bit b p)

-- P6's rows hold these numbers.
abbrev pub rows_p6 : List ℕ
rows_p6 = 0 ∷ 1 ∷ 2 ∷ 3 ∷ 4 ∷ 5 ∷ 6 ∷ 7 ∷ []

-- They are packed to these words, and P7 speaks of the same.
abbrev pub words_p6 : List Mark
words_p6 = 136 at 0 ∷ 198 at 128 ∷ 250 at 256 ∷ []

-- P10's runs have these values, made of the two numbers.
abbrev pub values_p10 : ℕ → ℕ → List ℕ
values_p10 a b = a ∷ b ∷ a ∷ []

-- These are its indices.
abbrev pub indices_p10 : Stretch
indices_p10 = (0 ∷ 0 ∷ 1 ∷ 2 ∷ []) then_on 2

-- This is its block.
abbrev pub block_p10 : ℕ → ℕ → Stretch
block_p10 a b = (a ∷ a ∷ b ∷ []) then_on a

-- This is the list. P5 is four cases, and P8 and P11 are two each.
abbrev pub cases : List Case
cases =
    stands t8 7 127 1023  -- P1
    ∷ stands t16 8 0 64  -- P2
    ∷ stands t32 9 5 197  -- P3
    ∷ stands t64 63 15 1023  -- P4
    ∷ comes 1 64  -- P5
    ∷ comes 64 8  -- P5
    ∷ comes 197 329  -- P5
    ∷ comes 1023 1023  -- P5
    ∷ packs t8 3 0 rows_p6 words_p6  -- P6
    ∷ reads t8 3 words_p6 256 2 (0 ∷ 128 ∷ [])  -- P7, from two words
    ∷ frames t8 4 3 250 9 3  -- P8, restored at width 4
    ∷ frames t8 3 3 250 9 251  -- P8, not restored at width 3
    ∷ steps t8 5 (5 ∷ 7 ∷ 6 ∷ []) (0 ∷ 2 ∷ 255 ∷ [])  -- P9
    ∷ runs values_p10 indices_p10 block_p10  -- P10
    ∷ moves t16 56 67  -- P11
    ∷ moves t64 64 1  -- P11
    ∷ []

-- This says that every case of a list has the property.
abbrev pub All : (P : Case → Type 0) → List Case → Type 0
All P [] = Unit
All P (c ∷ cs) = P c × All P cs
