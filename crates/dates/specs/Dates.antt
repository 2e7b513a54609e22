-- Why transposing helps the dates (R25 to R27). This page is for people who know dates and not proofs. The statements
-- below it are proved in proofs/Dates.antt, by theorems whose names are given here.
--
-- A block has 1,024 dates. Date i is the one that was written as number i, counted from 0: that is a logical value, and
-- date i - 1 is the logical value just before it. Dates that follow one another lie close together, so the difference
-- of two such neighbours is a small number, and small numbers are packed at a small width.
--
-- Delta does not go through a block from place 0 to place 1023. It cuts it into lanes, and stores in each lane every
-- row minus the row before it. Row r of lane l stands at place order[r / 8] * 16 + (r mod 8) * 128 + l. So in a block
-- that stands as it was written the dates that meet are no neighbours: the first eight rows of lane 0 are the dates 0,
-- 128, 256, .., 896. Their differences are those of 128 dates.
--
-- Transpose puts at place p the date whose number is the source of p. The dates that meet in a lane are then
-- neighbours, at all four sizes: row r of lane l holds the date whose number is that of row 0, plus r (`row_sources`).
-- Row 0 of lane l stands at place l.
--
--     T    lanes   rows of a lane, all   lane l begins with date                     dates that meet     that meet the
--                  of them neighbours                                                the one before      base: row 0
--     8    128     8                     64 * (l mod 16) + 8 * order[l / 16]         896                 128
--     16   64      16                    64 * (l mod 16) + 8 * order[l / 16]         960                 64
--     32   32      32                    64 * (l mod 16) + 32 * (l / 16)             992                 32
--     64   16      64                    64 * l                                      1,008               16
--
-- So a lane of T 64 holds 64 dates that follow one another, and one of T 8 only 8. The lanes begin with the dates 0, T,
-- 2 * T and so on, though not in that order but at T 64.
--
-- From row 1 on delta stores a date minus the date just before it (`neighbours`). Said without lanes: date i is stored
-- minus date i - 1 unless i is a multiple of T, and it is stored at the place whose source is i (`each-date`).
--
-- Row 0 has no row before it. What it stores is its date minus base[l], which the caller gives (`first_rows`). So row 0
-- meets a neighbour only if the caller puts one into the base: for lane l the date before that lane's first, and for
-- lane 0, which begins with date 0, the last date of the block before. With a base of zeros row 0 stores the date
-- itself, and that decides the width.
--
-- All this is said of the two calls, transpose and then delta, as they answer: for every block, every base, and
-- whatever the two outputs held that they were lent, so long as the lengths are right. Neither call is then refused
-- (`both-done`). Differences wrap modulo 2^T: a date that is 1 below the one before it is stored as 2^T - 1, and
-- undelta with the same base gives it back, but it needs the full width.
--
-- Transpose is not its own inverse: a block that is transposed twice is not as it was. Untranspose gives it back at
-- once. So do transposes, but there have to be eight: eight restore any block (`eight_restore`), and no smaller number
-- but 0 restores every block. One block shows that of each number from 1 to 7 (`no_fewer`): it has a 1 at place 1 and 0
-- elsewhere, so it is a block at each size (`lone-fits`). Its 1 goes to place 128, then to 2, 256, 4, 512, 8 and 64,
-- and with the eighth transpose back to 1.
-- Assumes nothing.
use Rattle.std.specs.Prelude.{List, ◌≢◌, ◌≡◌, ℕ, zero, suc, ◌+◌, ◌-◌, ◌%◌, ◌≤◌, ◌<◌, eqb, length, get_or}
use Rattle.lists.specs.Numbers.{minus, Elements}
use Rattle.lists.specs.Pick.{pick}
use Rattle.lists.specs.Tab.{tab}
use Rattle.places.specs.declared.Answer.TheVariants.{Done}
use Rattle.places.specs.Places.{place, source, target}
use Rattle.places.specs.Sizes.{Size, lanes}
use Rattle.places.specs.Takes.{answer_for}
use Rattle.places.specs.Transposes.{transpose_takes, transpose_leaves}
use Rattle.deltas.specs.Calls.{delta_takes, delta_leaves}

-- The place of row r in lane l has a source that is r more than that of place l (R25).
abbrev pub RowSources : Type 0
RowSources = (t : ℕ) → Size t → (r l : ℕ) → r < t → l < lanes t → source (place r l) ≡ source l + r

-- These are a block of dates, a base, and the two outputs that transpose and delta are lent, which may have held
-- anything.
pub record Lent (t : ℕ) : Type 0 where
  pub dates : List ℕ
  pub base : List ℕ
  pub between : List ℕ
  pub output : List ℕ
  pub dates_long : length dates ≡ 1024
  pub base_long : length base ≡ lanes t
  pub between_long : length between ≡ 1024
  pub output_long : length output ≡ 1024

-- This is what transpose leaves of the dates,
abbrev pub transposed_of : {t : ℕ} → Lent t → List ℕ
transposed_of x = transpose_leaves x.dates x.between

-- and this is what delta leaves of that.
abbrev pub stored_of : {t : ℕ} → Lent t → List ℕ
stored_of {t} x = delta_leaves t (transposed_of x) x.base x.output

-- Neither call is refused.
abbrev pub BothDone : Type 0
BothDone =
    (t : ℕ) → Size t → (x : Lent t)
    → (answer_for (transpose_takes x.dates x.between) ≡ Done) × (answer_for (delta_takes t (transposed_of x) x.base x.output) ≡ Done)

-- From row 1 on delta stores of a transposed block each logical value less the one right before it, modulo 2^t (R26).
abbrev pub Neighbours : Type 0
Neighbours =
    (t : ℕ) → Size t → (x : Lent t) (r l : ℕ) → 1 ≤ r → r < t → l < lanes t
    → get_or (stored_of x) (place r l) 0 ≡ minus t (get_or x.dates (source l + r) 0) (get_or x.dates (source l + r - 1) 0)

-- In row 0 it stores the logical value minus the base of the lane.
abbrev pub FirstRows : Type 0
FirstRows =
    (t : ℕ) → Size t → (x : Lent t) (l : ℕ) → l < lanes t
    → get_or (stored_of x) (place 0 l) 0 ≡ minus t (get_or x.dates (source l) 0) (get_or x.base l 0)

-- The same by the number i of a date: unless i is a multiple of t, the date meets the one before it.
abbrev pub EachDate : Type 0
EachDate =
    (t : ℕ) → Size t → (x : Lent t) (i : ℕ) → i < 1024 → i % t ≢ 0
    → get_or (stored_of x) (target i) 0 ≡ minus t (get_or x.dates i 0) (get_or x.dates (i - 1) 0)

-- This is a block after n transposes, each of what the one before it left. Call k is lent `outputs k`.
unfoldable pub transposed : (n : ℕ) (outputs : ℕ → List ℕ) (block : List ℕ) → List ℕ
transposed zero outputs block = block
transposed (suc n) outputs block = transpose_leaves (transposed n outputs block) (outputs n)

-- Each call is lent a block.
abbrev pub Blocks : (outputs : ℕ → List ℕ) → Type 0
Blocks outputs = (k : ℕ) → length (outputs k) ≡ 1024

-- Eight transposes restore any block.
abbrev pub EightRestore : Type 0
EightRestore = (outputs : ℕ → List ℕ) → Blocks outputs → (block : List ℕ) → length block ≡ 1024 → transposed 8 outputs block ≡ block

-- This block has a 1 at place 1, and 0 at every other place.
unfoldable pub lone : List ℕ
lone = tab 1024 (λ i. pick (eqb i 1) 1 0)

-- It is a block at each of the four sizes,
abbrev pub LoneFits : Type 0
LoneFits = (length lone ≡ 1024) × ((t : ℕ) → Size t → Elements t lone)

-- and no smaller positive number of transposes restores it.
abbrev pub NoFewer : Type 0
NoFewer = (outputs : ℕ → List ℕ) → Blocks outputs → (n : ℕ) → 1 ≤ n → n < 8 → transposed n outputs lone ≢ lone
