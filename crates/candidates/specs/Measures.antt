-- What is measured of a block before a candidate is laid down, and the choice by what was measured: what is known of a
-- block then is its range, and the width of its differences.
-- Assumes nothing.
use Rattle.std.specs.Prelude.{ℕ, List, ◌++◌, length, nat_le}
use Rattle.lists.specs.Numbers.{minus}
use Rattle.lists.specs.Pick.{pick}
use Rattle.lists.specs.Ends.{lowest_of}
use Rattle.places.specs.Sizes.{t64}
use Rattle.packing.specs.Packed.{pack_of}
use Rattle.deltas.specs.Deltas.{for_pack_of}
use Rattle.contents.specs.declared.Entry.{Entry}
use Rattle.contents.specs.declared.Range.{Range}
use Rattle.candidates.specs.declared.Measures.{Measures}
use Rattle.candidates.specs.Widths.{bits, width_of}
use Rattle.candidates.specs.Candidates.{packed_entry, framed, differences, base_of}

-- These are the lowest number, which is the frame's reference, and the widths of the three candidates.
unfoldable pub measures_of : (values : List ℕ) → Measures
measures_of values = record {
  low = lowest_of values;
  plain = width_of values;
  frame = width_of (framed values);
  steps = width_of (differences values);
}

-- By a range and a width of the differences they are these: the highest number of a packed block is the largest, and
-- that of a frame the largest less the smallest.
unfoldable pub widths_by : (range : Range) (steps : ℕ) → Measures
widths_by range steps = record {
  low = range.smallest;
  plain = bits range.largest;
  frame = bits (minus t64 range.largest range.smallest);
  steps = steps;
}

-- This is the entry of the shorter body, and of two that are equally long the first.
unfoldable pub shorter_entry : (a b : Entry) → Entry
shorter_entry a b = pick (nat_le a.length b.length) a b

-- The choice among the entries goes by what was measured.
unfoldable pub entry_by : (m : Measures) → Entry
entry_by m =
    shorter_entry (shorter_entry (packed_entry 0 m.plain 0 0) (packed_entry 1 m.frame 0 m.low)) (packed_entry 2 m.steps 128 0)

-- This is the shorter of two bodies, and of two that are equally long the first.
unfoldable pub shorter_part : (a b : List ℕ) → List ℕ
shorter_part a b = pick (nat_le (length a) (length b)) a b

-- The three bodies by what was measured,
abbrev pub plain_by : (m : Measures) (values : List ℕ) → List ℕ
plain_by m values = pack_of t64 m.plain values

abbrev pub frame_by : (m : Measures) (values : List ℕ) → List ℕ
frame_by m values = for_pack_of t64 m.frame values m.low

abbrev pub steps_by : (m : Measures) (values : List ℕ) → List ℕ
steps_by m values = base_of values ++ pack_of t64 m.steps (differences values)

-- and the choice among them goes by their lengths.
unfoldable pub words_by : (m : Measures) (values : List ℕ) → List ℕ
words_by m values = shorter_part (shorter_part (plain_by m values) (frame_by m values)) (steps_by m values)
