-- What the writer lays down for a block of 1,024 numbers (R100, R101): three candidates, each at the least width that
-- restores the block, and the one of them that is chosen.
-- Assumes nothing.
use Rattle.std.specs.Prelude.{ℕ, List, ◌++◌, nat_le, slice_index}
use Rattle.lists.specs.Pick.{pick}
use Rattle.lists.specs.Tab.{tab}
use Rattle.lists.specs.Ends.{lowest_of}
use Rattle.places.specs.Places.{place}
use Rattle.places.specs.Sizes.{t64, lanes}
use Rattle.packing.specs.Packed.{pack_of}
use Rattle.deltas.specs.Deltas.{delta_of, frame_of, for_pack_of}
use Rattle.little.specs.Little.{all_bytes}
use Rattle.contents.specs.declared.Entry.{Entry}
use Rattle.contents.specs.Contents.{packed_size}
use Rattle.candidates.specs.Widths.{width_of}

-- A candidate is the entry that the contents would have, and the words of the body.
pub record Candidate : Type 0 where
  pub entry : Entry
  pub words : List ℕ

-- This is the entry of a packed body of width w behind `more` bytes. Its length follows from the width.
abbrev pub packed_entry : (kind w more reference : ℕ) → Entry
packed_entry kind w more reference = record { kind = kind; width = w; zero = 0; length = packed_size more w; reference = reference }

-- Kind 0 at width w is the packed block.
unfoldable pub plain_at : (w : ℕ) (values : List ℕ) → Candidate
plain_at w values = record { entry = packed_entry 0 w 0 0; words = pack_of t64 w values }

-- Kind 1 at width w is the frame with the block's lowest number as reference.
unfoldable pub frame_at : (w : ℕ) (values : List ℕ) → Candidate
frame_at w values = record {
  entry = packed_entry 1 w 0 (lowest_of values);
  words = for_pack_of t64 w values (lowest_of values);
}

-- These are the numbers that this frame packs.
abbrev pub framed : (values : List ℕ) → List ℕ
framed values = frame_of t64 values (lowest_of values)

-- The base of the differences is the number in row 0 of each lane,
unfoldable pub base_of : (values : List ℕ) → List ℕ
base_of values = tab (lanes t64) (λ l. slice_index values (place 0 l))

-- so these are the differences.
abbrev pub differences : (values : List ℕ) → List ℕ
differences values = delta_of t64 values (base_of values)

-- Kind 2 at width w is the base, and behind it the packed differences.
unfoldable pub steps_at : (w : ℕ) (values : List ℕ) → Candidate
steps_at w values = record {
  entry = packed_entry 2 w 128 0;
  words = base_of values ++ pack_of t64 w (differences values);
}

-- Each kind stands at the least width that holds the numbers that it packs. That this is the least width that restores
-- the block is a law.
abbrev pub plain : (values : List ℕ) → Candidate
plain values = plain_at (width_of values) values

abbrev pub frame : (values : List ℕ) → Candidate
frame values = frame_at (width_of (framed values)) values

abbrev pub steps : (values : List ℕ) → Candidate
steps values = steps_at (width_of (differences values)) values

-- Two candidates are compared by the length of the body. The first has the lower kind, so it is taken where the lengths
-- are equal.
unfoldable pub shorter : (a b : Candidate) → Candidate
shorter a b = pick (nat_le a.entry.length b.entry.length) a b

-- The chosen one is the shortest of the three.
unfoldable pub chosen : (values : List ℕ) → Candidate
chosen values = shorter (shorter (plain values) (frame values)) (steps values)

-- These are the bytes of its body.
unfoldable pub body_for : (values : List ℕ) → List ℕ
body_for values = all_bytes 8 (chosen values).words
