-- The contents of a column file as bytes (R79, R80), and what writing them leaves (R106): the writer writes edition 2.
-- Assumes nothing.
use Rattle.std.specs.Prelude.{List, [], ◌∷◌, ◌++◌, ℕ, ◌+◌, leb, length}
use Rattle.lists.specs.Pick.{pick}
use Rattle.lists.specs.Tab.{over}
use Rattle.little.specs.Little.{bytes_of}
use Rattle.contents.specs.declared.Entry.{Entry}
use Rattle.contents.specs.declared.Range.{Range}

-- The first four bytes of a file are edition 2 and the block count.
unfoldable pub head_bytes : (n : ℕ) → List ℕ
head_bytes n = bytes_of 2 2 ++ bytes_of 2 n

-- The sixteen bytes that an entry has in both editions are kind, width, zero, body length, reference.
unfoldable pub first_bytes : (e : Entry) → List ℕ
first_bytes e = (e.kind ∷ e.width ∷ []) ++ bytes_of 2 e.zero ++ bytes_of 4 e.length ++ bytes_of 8 e.reference

-- The smallest and the largest value have eight bytes each.
unfoldable pub range_bytes : (r : Range) → List ℕ
range_bytes r = bytes_of 8 r.smallest ++ bytes_of 8 r.largest

-- So an entry of edition 2 is these thirty-two bytes.
unfoldable pub entry_bytes : (e : Entry) (r : Range) → List ℕ
entry_bytes e r = first_bytes e ++ range_bytes r

-- Writing the first four bytes leaves this. Where there are fewer, nothing is written.
unfoldable pub head_leaves : (n : ℕ) (bytes : List ℕ) → List ℕ
head_leaves n bytes = pick (leb 4 (length bytes)) (over 0 (head_bytes n) bytes) bytes

-- Writing the first sixteen bytes of an entry from place `at` on leaves this. Where they do not fit, nothing is
-- written.
unfoldable pub first_leaves : (e : Entry) (at : ℕ) (bytes : List ℕ) → List ℕ
first_leaves e at bytes = pick (leb (at + 16) (length bytes)) (over at (first_bytes e) bytes) bytes

-- Writing an entry and its range from place `at` on leaves this. Where it does not fit, nothing is written.
unfoldable pub entry_leaves : (e : Entry) (r : Range) (at : ℕ) (bytes : List ℕ) → List ℕ
entry_leaves e r at bytes = pick (leb (at + 32) (length bytes)) (over at (entry_bytes e r) bytes) bytes
