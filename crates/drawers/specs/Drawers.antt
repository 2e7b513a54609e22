-- A drawer of blocks (R66 to R68): what the calls on m blocks of one width answer, and what each leaves in the buffer
-- lent to it.
-- Assumes nothing.
use Rattle.std.specs.Prelude.{List, [], ◌∷◌, ℕ, ◌*◌, leb}
use Rattle.lists.specs.Tests.{Test, first_refusal, long}
use Rattle.lists.specs.Parts.{cut, joined}
use Rattle.lists.specs.Pick.{both}
use Rattle.places.specs.declared.Answer.{Answer}
use Rattle.places.specs.declared.Answer.TheVariants.{Done, Width, Block, Packed}
use Rattle.places.specs.Answers.{left}
use Rattle.places.specs.Sizes.{lanes}
use Rattle.packing.specs.Packed.{unpack_of}
use Rattle.deltas.specs.Deltas.{for_pack_of}

-- Both calls make these tests, in the order of the numbers: the width, the blocks of values, of which there are at
-- most 256, and the packed blocks.
abbrev pub drawer_tests : (t w m : ℕ) (values packed : List ℕ) → List (Test Answer)
drawer_tests t w m values packed =
    (leb w t, Width)
    ∷ (both (leb m 256) (long (m * 1024) values), Block)
    ∷ (long (m * (lanes t * w)) packed, Packed)
    ∷ []

-- They answer with the first refusal, and where every test passes they are done.
unfoldable pub drawer_answer : (t w m : ℕ) (values packed : List ℕ) → Answer
drawer_answer t w m values packed = first_refusal Done (drawer_tests t w m values packed)

-- The list x is cut into parts of n entries. These are the first m of them, each turned into another list by the rule
-- g, one after another.
unfoldable pub each_part_lem : (n : ℕ) (g : List ℕ → List ℕ) (m : ℕ) (x : List ℕ) → List ℕ
each_part_lem n g m x = joined m (λ b. g (cut n x b))

-- The packed blocks are unpacked one by one.
unfoldable pub unpack_blocks_of : (t w m : ℕ) (packed : List ℕ) → List ℕ
unpack_blocks_of t w m packed = each_part_lem (lanes t * w) (unpack_of t w) m packed

-- The blocks of values are packed as frames one by one, all with the one reference.
unfoldable pub for_pack_blocks_of : (t w m : ℕ) (values : List ℕ) (reference : ℕ) → List ℕ
for_pack_blocks_of t w m values reference = each_part_lem 1024 (λ block. for_pack_of t w block reference) m values

-- `unpack_blocks` leaves this in `values`.
unfoldable pub unpack_blocks_leaves : (t w m : ℕ) (values packed : List ℕ) → List ℕ
unpack_blocks_leaves t w m values packed = left (drawer_answer t w m values packed) (unpack_blocks_of t w m packed) values

-- `for_pack_blocks` leaves this in `packed`.
unfoldable pub for_pack_blocks_leaves : (t w m : ℕ) (values packed : List ℕ) (reference : ℕ) → List ℕ
for_pack_blocks_leaves t w m values packed reference = left (drawer_answer t w m values packed) (for_pack_blocks_of t w m values reference) packed
