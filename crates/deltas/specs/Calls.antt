-- What each call of deltas takes, and what it leaves in the buffer lent to it, for every input (R52, R54, R57). What a
-- call answers is `answer_for` what it takes; `for_pack` and `unfor_pack` take what pack and unpack do.
-- Assumes nothing.
use Rattle.std.specs.Prelude.{List, [], ◌∷◌, ℕ}
use Rattle.places.specs.Answers.{left}
use Rattle.places.specs.Takes.{Taken, a_width, a_block, a_packed, a_base, answer_for}
use Rattle.packing.specs.Calls.{pack_takes}
use Rattle.deltas.specs.Deltas.{delta_of, undelta_of, undelta_pack_of, for_pack_of, unfor_pack_of}

-- Delta and undelta take two blocks and a base.
abbrev pub delta_takes : (t : ℕ) (input base output : List ℕ) → List Taken
delta_takes t input base output = a_block input ∷ a_block output ∷ a_base t base ∷ []

-- Delta leaves this in its output.
unfoldable pub delta_leaves : (t : ℕ) (values base output : List ℕ) → List ℕ
delta_leaves t values base output = left (answer_for (delta_takes t values base output)) (delta_of t values base) output

-- Undelta leaves this in its output.
unfoldable pub undelta_leaves : (t : ℕ) (numbers base output : List ℕ) → List ℕ
undelta_leaves t numbers base output = left (answer_for (delta_takes t numbers base output)) (undelta_of t numbers base) output

-- `undelta_pack` takes a width, a block of values, a packed block and a base.
abbrev pub undelta_pack_takes : (t w : ℕ) (values packed base : List ℕ) → List Taken
undelta_pack_takes t w values packed base = a_width t w ∷ a_block values ∷ a_packed t w packed ∷ a_base t base ∷ []

-- `undelta_pack` leaves this in `values`.
unfoldable pub undelta_pack_leaves : (t w : ℕ) (values packed base : List ℕ) → List ℕ
undelta_pack_leaves t w values packed base =
    left (answer_for (undelta_pack_takes t w values packed base)) (undelta_pack_of t w packed base) values

-- `for_pack` leaves this in `packed`.
unfoldable pub for_pack_leaves : (t w : ℕ) (values packed : List ℕ) (reference : ℕ) → List ℕ
for_pack_leaves t w values packed reference = left (answer_for (pack_takes t w values packed)) (for_pack_of t w values reference) packed

-- `unfor_pack` leaves this in `values`.
unfoldable pub unfor_pack_leaves : (t w : ℕ) (values packed : List ℕ) (reference : ℕ) → List ℕ
unfor_pack_leaves t w values packed reference = left (answer_for (pack_takes t w values packed)) (unfor_pack_of t w packed reference) values
