-- What decode takes, and what it leaves in the buffer lent to it, for every input (R58, R59). What it answers is
-- `answer_for` what it takes. Nothing here depends on the element size.
-- Assumes nothing.
use Rattle.std.specs.Prelude.{List, [], ◌∷◌, ℕ}
use Rattle.places.specs.Answers.{left}
use Rattle.places.specs.Takes.{Taken, a_block, dictionary_indices, answer_for}
use Rattle.runs.specs.Runs.{decode_of}

-- Decode takes two blocks, the indices and the output, and a dictionary of any length, which is tested for every index.
abbrev pub decode_takes : (dictionary indices output : List ℕ) → List Taken
decode_takes dictionary indices output = a_block indices ∷ a_block output ∷ dictionary_indices dictionary indices ∷ []

-- Decode leaves this in its output.
unfoldable pub decode_leaves : (dictionary indices output : List ℕ) → List ℕ
decode_leaves dictionary indices output =
    left (answer_for (decode_takes dictionary indices output)) (decode_of dictionary indices) output
