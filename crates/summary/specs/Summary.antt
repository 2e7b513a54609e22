-- What is said of a block to a person.
-- Assumes nothing.
use Rattle.std.specs.Prelude.{List, ℕ, ◌+◌, ◌*◌, ◌-◌, ◌/◌, min}
use Rattle.lists.specs.Ends.{highest_of, lowest_of}
use Rattle.contents.specs.declared.Entry.{Entry}
use Rattle.summary.specs.declared.Summary.{Summary}

-- The summary of a block: what its entry says, and its lowest and its highest number.
abbrev pub summary_of : (e : Entry) (block : List ℕ) → Summary
summary_of e block = record {
  kind = e.kind;
  width = e.width;
  length = e.length;
  reference = e.reference;
  smallest = lowest_of block;
  largest = highest_of block;
}

-- Thousandths of a byte for each row, rounded down. Of no rows it is 0.
abbrev pub thousandths_of : (bytes rows : ℕ) → ℕ
thousandths_of bytes rows = bytes * 1000 / rows

-- The marks of a width: a mark for each four bits that are begun.
abbrev pub marks_of : (width : ℕ) → ℕ
marks_of width = (width + 3) / 4

-- The place of block i at which a row stands: 0 where it stands in a block before it, and 1,024 where it stands in one
-- behind it.
abbrev pub place_in : (row i : ℕ) → ℕ
place_in row i = min (row - i * 1024) 1024
