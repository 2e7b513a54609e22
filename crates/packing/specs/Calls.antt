-- What pack and unpack take, and what each leaves in the buffer lent to it, for every input (R36). What a call answers
-- is `answer_for` what it takes.
-- Assumes nothing.
use Rattle.std.specs.Prelude.{List, [], ◌∷◌, ℕ}
use Rattle.places.specs.Answers.{left}
use Rattle.places.specs.Takes.{Taken, a_width, a_block, a_packed, answer_for}
use Rattle.packing.specs.Packed.{pack_of, unpack_of}

-- Both calls take a width, a block of values and a packed block.
abbrev pub pack_takes : (t w : ℕ) (values packed : List ℕ) → List Taken
pack_takes t w values packed = a_width t w ∷ a_block values ∷ a_packed t w packed ∷ []

-- Pack leaves this in `packed`.
unfoldable pub pack_leaves : (t w : ℕ) (values packed : List ℕ) → List ℕ
pack_leaves t w values packed = left (answer_for (pack_takes t w values packed)) (pack_of t w values) packed

-- Unpack leaves this in `values`.
unfoldable pub unpack_leaves : (t w : ℕ) (values packed : List ℕ) → List ℕ
unpack_leaves t w values packed = left (answer_for (pack_takes t w values packed)) (unpack_of t w packed) values
