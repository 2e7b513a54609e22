-- The contents of a column file (R79 to R82): edition, block count, and an entry for each block, in edition 2 with the
-- block's smallest and largest value. Then when an entry is right, where each body stands (R83), and what is tested of
-- the contents (R91).
--
-- `l` is the front of a file, of which the contents are the first bytes; the whole file is its own front.
-- Assumes nothing.
use Rattle.std.specs.Prelude.{Bool, true, false, List, [], ◌∷◌, ◌≡◌, ℕ, zero, suc, ◌+◌, ◌*◌, ◌%◌, eqb, leb, ltb, length, get_or, Ok, Err}
use Rattle.lists.specs.Pick.{pick, both, either}
use Rattle.lists.specs.Search.{first_bad}
use Rattle.places.specs.Sizes.{largest_u64}
use Rattle.little.specs.Little.{little, little_or}
use Rattle.contents.specs.declared.FileRefusal.TheVariants.{BadEntry, Cut, Edition, Over}
use Rattle.contents.specs.declared.Entry.{Entry}
use Rattle.contents.specs.declared.Range.{Range}
use Rattle.contents.specs.Answers.{FileTest, file_answer}

-- The edition is the first number of two bytes,
abbrev pub edition : List ℕ → ℕ
edition l = little l 0 2

-- and the block count the second.
abbrev pub count : List ℕ → ℕ
count l = little l 2 2

-- An entry has sixteen bytes, and in edition 2 sixteen more.
unfoldable pub entry_size : (edition : ℕ) → ℕ
entry_size e = pick (eqb e 2) 32 16

-- Contents of n entries have so many bytes, and entry n would stand behind them.
unfoldable pub contents_size : (edition n : ℕ) → ℕ
contents_size e n = 4 + n * entry_size e

-- The first sixteen bytes of an entry, from place `at` on, are this.
abbrev pub entry_at : (l : List ℕ) (at : ℕ) → Entry
entry_at l at = record {
  kind = get_or l at 0;
  width = get_or l (at + 1) 0;
  zero = little l (at + 2) 2;
  length = little l (at + 4) 4;
  reference = little l (at + 8) 8;
}

-- This is entry i.
unfoldable pub entry_of : (l : List ℕ) (i : ℕ) → Entry
entry_of l i = entry_at l (contents_size (edition l) i)

-- The sixteen bytes from place `at` on are a smallest and a largest value.
abbrev pub range_at_lem : (l : List ℕ) (at : ℕ) → Range
range_at_lem l at = record { smallest = little l at 8; largest = little l (at + 8) 8 }

-- From 0 to the largest u64 is the range of a block of which the contents say none.
abbrev pub any_range : Range
any_range = record { smallest = 0; largest = largest_u64 }

-- This is the range that entry i says: in edition 2 its last sixteen bytes, and in edition 1 every number.
unfoldable pub range_of : (l : List ℕ) (i : ℕ) → Range
range_of l i = pick (eqb (edition l) 2) (range_at_lem l (contents_size (edition l) i + 16)) any_range

-- This test says that the smallest is not above the largest.
abbrev pub is_ordered : (r : Range) → Bool
is_ordered r = leb r.smallest r.largest

-- This is the body's length that a packed block of width w asks for, behind `more` bytes.
abbrev pub packed_size : (more w : ℕ) → ℕ
packed_size more w = more + 128 * w

-- This test says that the width is at most 64 and the length the one that it asks for.
abbrev pub is_packed : (more : ℕ) (e : Entry) → Bool
is_packed more e = both (leb e.width 64) (eqb e.length (packed_size more e.width))

-- This test says that the width is 0 and the length 2048 + 8·n for a number n from 1 to 1,024: 2,056 to 10,240, and a
-- multiple of 8.
abbrev pub is_runs : (e : Entry) → Bool
is_runs e = both (eqb e.width 0) (both (leb 2056 e.length) (both (leb e.length 10240) (eqb (e.length % 8) 0)))

-- These tests say what each kind asks of the rest of the entry: 0 is packed, 1 a frame, 2 differences with sixteen base
-- words, 3 runs.
unfoldable pub is_of_kind : (e : Entry) → Bool
is_of_kind e =
    pick (eqb e.kind 0) (both (eqb e.reference 0) (is_packed 0 e))
    (pick (eqb e.kind 1) (is_packed 0 e)
    (pick (eqb e.kind 2) (both (eqb e.reference 0) (is_packed 128 e))
    (pick (eqb e.kind 3) (both (eqb e.reference 0) (is_runs e)) false)))

-- This test says that an entry is as laid out.
unfoldable pub is_laid_out : (e : Entry) → Bool
is_laid_out e = both (eqb e.zero 0) (is_of_kind e)

-- Kind 3 is taken in edition 1 alone: in edition 2 the kind has to be below 3.
abbrev pub is_taken_in : (edition : ℕ) (e : Entry) → Bool
is_taken_in edition e = pick (eqb edition 2) (ltb e.kind 3) true

-- Entry i of a file is right where it is as laid out, the edition takes its kind, and the smallest value that it says
-- is not above the largest.
unfoldable pub is_right : (l : List ℕ) (i : ℕ) → Bool
is_right l i = both (is_laid_out (entry_of l i)) (both (is_taken_in (edition l) (entry_of l i)) (is_ordered (range_of l i)))

-- This is the lowest entry that is not right, and the count where there is none.
unfoldable pub bad_entry : List ℕ → ℕ
bad_entry l = first_bad (count l) (is_right l)

-- The bodies of the first n entries have so many bytes.
unfoldable pub bodies_size : (l : List ℕ) (n : ℕ) → ℕ
bodies_size l zero = 0
bodies_size l (suc n) = bodies_size l n + (entry_of l n).length

-- Body i begins behind the contents and the bodies before it, so the file ends where body number `count` would begin.
unfoldable pub body_start : (l : List ℕ) (i : ℕ) → ℕ
body_start l i = contents_size (edition l) (count l) + bodies_size l i

-- These are the tests of the entries, for a file of `size` bytes of which l is the front.
abbrev pub entries_tests : (l : List ℕ) (size : ℕ) → List FileTest
entries_tests l size =
    (eqb (bad_entry l) (count l), Err (BadEntry (bad_entry l)))
    ∷ (leb (body_start l (count l)) size, Err Cut)
    ∷ (leb size (body_start l (count l)), Err Over)
    ∷ []

-- These are the tests of the contents: of the edition and the count, whether the entries are there, and then of the
-- entries.
abbrev pub contents_tests : (l : List ℕ) (size : ℕ) → List FileTest
contents_tests l size =
    (leb 4 (length l), Err Cut)
    ∷ (both (either (eqb (edition l) 1) (eqb (edition l) 2)) (leb (count l) 256), Err Edition)
    ∷ (leb (contents_size (edition l) (count l)) (length l), Err Cut)
    ∷ entries_tests l size

-- The contents of a file are taken where none of their tests fails.
abbrev pub ContentsTaken : (l : List ℕ) → Type 0
ContentsTaken l = file_answer (contents_tests l (length l)) ≡ Ok tt

-- Where an entry is not there, this stands for it. It is of no kind, so it is not as laid out.
abbrev pub no_entry : Entry
no_entry = record { kind = 255; width = 0; zero = 0; length = 0; reference = 0 }

-- This is entry i where its bytes are all there, and else no entry.
unfoldable pub entry_or : (l : List ℕ) (i : ℕ) → Entry
entry_or l i = pick (leb (contents_size (edition l) (suc i)) (length l)) (entry_of l i) no_entry

-- This is the range of entry i where its bytes are all there, and else every number.
unfoldable pub range_or : (l : List ℕ) (i : ℕ) → Range
range_or l i = pick (leb (contents_size (edition l) (suc i)) (length l)) (range_of l i) any_range

-- This test says that entry i is right, in a front that has all its bytes. An entry that is not all there is not right.
unfoldable pub has_right_entry : (l : List ℕ) (i : ℕ) → Bool
has_right_entry l i = both (leb (contents_size (edition l) (suc i)) (length l)) (is_right l i)

-- This is the edition where its bytes are all there, and else 0.
abbrev pub edition_or : List ℕ → ℕ
edition_or l = little_or l 0 2

-- This is the block count where its bytes are all there, and else 0.
abbrev pub count_or : List ℕ → ℕ
count_or l = little_or l 2 2
