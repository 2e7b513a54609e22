-- What the calls on one block answer and leave (R106): the entry that the writer gives a block, its smallest and
-- largest number, and the body written; in one call, or measured first and laid down later.
-- Assumes nothing.
use Rattle.std.specs.Prelude.{ℕ, ◌*◌, Bool, List, [], ◌∷◌, length, nat_le, Result, Err}
use Rattle.lists.specs.Pick.{pick, both}
use Rattle.lists.specs.Tab.{over}
use Rattle.lists.specs.Tests.{long}
use Rattle.contents.specs.declared.Entry.{Entry}
use Rattle.contents.specs.declared.FileRefusal.{FileRefusal}
use Rattle.contents.specs.declared.FileRefusal.TheVariants.{Block, Room}
use Rattle.contents.specs.declared.Range.{Range}
use Rattle.contents.specs.Answers.{FileAnswer, FileTest, file_answer, left, giving}
use Rattle.contents.specs.Contents.{no_entry, any_range}
use Rattle.bodies.specs.Ranges.{true_range}
use Rattle.candidates.specs.declared.Laid.{Laid}
use Rattle.candidates.specs.declared.Measured.{Measured}
use Rattle.little.specs.Little.{all_bytes}
use Rattle.candidates.specs.Candidates.{chosen, body_for, differences}
use Rattle.candidates.specs.Measures.{widths_by, entry_by, words_by, plain_by, frame_by, steps_by}
use Rattle.candidates.specs.Widths.{width_of}

-- This is the entry of a block of 1,024 numbers; another list has no entry.
unfoldable pub entry_for : (values : List ℕ) → Entry
entry_for values = pick (long 1024 values) (chosen values).entry no_entry

-- Writing the body of a block takes 1,024 numbers, and an output with room for the body.
abbrev pub lay_tests : (values output : List ℕ) → List FileTest
lay_tests values output = (long 1024 values, Err Block) ∷ (nat_le (length (body_for values)) (length output), Err Room) ∷ []

-- This is said of a block that is laid down: its entry and its range.
abbrev pub said_of : (values : List ℕ) → Laid
said_of values = record { entry = (chosen values).entry; range = true_range values }

-- The call gives this, or the refusal,
unfoldable pub laid_of : (values output : List ℕ) → Result Laid FileRefusal
laid_of values output = giving (file_answer (lay_tests values output)) (said_of values)

-- and leaves the body at the front of the output; the bytes behind it stay.
unfoldable pub lay_leaves : (values output : List ℕ) → List ℕ
lay_leaves values output = left (file_answer (lay_tests values output)) (over 0 (body_for values) output) output

-- ---- measured first, and laid down later

-- This is what is measured of a block of 1,024 numbers: the entry that the writer gives it, its range, and the width of
-- its differences. For a list of another length an entry of no kind is given, the range of every number, and the width
-- 0.
unfoldable pub measured_of : (values : List ℕ) → Measured
measured_of values =
    pick (long 1024 values) (record { entry = (chosen values).entry; range = true_range values; steps = width_of (differences values) })
    (record { entry = no_entry; range = any_range; steps = 0 })

-- This is the entry that is chosen for a block of this range whose differences have the width `steps`. Where `steps` is
-- above 64, which is no width, there is no entry.
unfoldable pub entry_with : (range : Range) (steps : ℕ) → Entry
entry_with range steps = pick (nat_le steps 64) (entry_by (widths_by range steps)) no_entry

-- This test says that the three candidates can be laid down: the rooms for them have 1,024 words, 1,024 words and 1,040
-- words, and the width of the differences is at most 64.
abbrev pub is_ready : (steps : ℕ) (plain frame rest : List ℕ) → Bool
is_ready steps plain frame rest = both (both (long 1024 plain) (long 1024 frame)) (both (long 1040 rest) (nat_le steps 64))

-- Laying a block down by a range and a width of its differences takes 1,024 numbers, rooms and a width that pass this
-- test, and an output with room for the shortest body.
abbrev pub by_tests : (range : Range) (steps : ℕ) (values plain frame rest output : List ℕ) → List FileTest
by_tests range steps values plain frame rest output =
    (long 1024 values, Err Block)
    ∷ (is_ready steps plain frame rest, Err Room)
    ∷ (nat_le (8 * length (words_by (widths_by range steps) values)) (length output), Err Room)
    ∷ []

-- It leaves each of the three bodies at the front of its room,
unfoldable pub plain_leaves : (answer : FileAnswer) (range : Range) (steps : ℕ) (values room : List ℕ) → List ℕ
plain_leaves answer range steps values room = left answer (over 0 (plain_by (widths_by range steps) values) room) room

unfoldable pub frame_leaves : (answer : FileAnswer) (range : Range) (steps : ℕ) (values room : List ℕ) → List ℕ
frame_leaves answer range steps values room = left answer (over 0 (frame_by (widths_by range steps) values) room) room

unfoldable pub steps_leaves : (answer : FileAnswer) (range : Range) (steps : ℕ) (values room : List ℕ) → List ℕ
steps_leaves answer range steps values room = left answer (over 0 (steps_by (widths_by range steps) values) room) room

-- and the bytes of the shortest at the front of the output. By the true range of the block and the true width this is
-- the body that the writer gives it, which is a law.
unfoldable pub by_leaves : (answer : FileAnswer) (range : Range) (steps : ℕ) (values output : List ℕ) → List ℕ
by_leaves answer range steps values output = left answer (over 0 (all_bytes 8 (words_by (widths_by range steps) values)) output) output
