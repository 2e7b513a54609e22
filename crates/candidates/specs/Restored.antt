-- What the reader makes of a candidate (R84), and the candidate of a kind at any width. With these a law says that the
-- chosen width restores the block, and that no smaller one does (R102).
-- Assumes nothing.
use Rattle.std.specs.Prelude.{ℕ, List, ◌==◌}
use Rattle.lists.specs.Pick.{pick}
use Rattle.little.specs.Little.{all_bytes}
use Rattle.bodies.specs.Bodies.{block_of}
use Rattle.candidates.specs.Candidates.{Candidate, plain_at, frame_at, steps_at, framed, differences}
use Rattle.candidates.specs.Widths.{width_of}

-- The reader makes this block of the candidate's entry and the bytes of its words.
abbrev pub restored : (c : Candidate) → List ℕ
restored c = block_of c.entry (all_bytes 8 c.words)

-- This is the candidate of a kind at width w. There are the kinds 0, 1 and 2, and every other number stands for kind 2.
unfoldable pub candidate_at : (kind w : ℕ) (values : List ℕ) → Candidate
candidate_at kind w values = pick (kind == 0) (plain_at w values) (pick (kind == 1) (frame_at w values) (steps_at w values))

-- These are the numbers that a kind packs: those of the block, of its frame, or its differences.
unfoldable pub packs : (kind : ℕ) (values : List ℕ) → List ℕ
packs kind values = pick (kind == 0) values (pick (kind == 1) (framed values) (differences values))

-- This is the candidate of a kind, at the least width that holds the numbers that it packs.
abbrev pub candidate : (kind : ℕ) (values : List ℕ) → Candidate
candidate kind values = candidate_at kind (width_of (packs kind values)) values
