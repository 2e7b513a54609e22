-- The value transpose and its inverse (R22 to R24): what each call takes, and what it leaves in its output. Neither
-- depends on the element size.
-- Assumes nothing.
use Rattle.std.specs.Prelude.{List, [], ◌∷◌, ℕ, get_or}
use Rattle.lists.specs.Tab.{tab}
use Rattle.places.specs.Answers.{left}
use Rattle.places.specs.Places.{source, target}
use Rattle.places.specs.Takes.{Taken, a_block, answer_for}

-- Transpose puts at i the value found at the source of i.
unfoldable pub transpose_of : List ℕ → List ℕ
transpose_of v = tab 1024 (λ i. get_or v (source i) 0)

-- Untranspose puts the value found at i at the source of i: so at j stands the value found at the place whose source is
-- j.
unfoldable pub untranspose_of : List ℕ → List ℕ
untranspose_of v = tab 1024 (λ j. get_or v (target j) 0)

-- Both calls take two blocks.
abbrev pub transpose_takes : (input output : List ℕ) → List Taken
transpose_takes input output = a_block input ∷ a_block output ∷ []

-- Transpose leaves this in its output.
unfoldable pub transpose_leaves : (input output : List ℕ) → List ℕ
transpose_leaves input output = left (answer_for (transpose_takes input output)) (transpose_of input) output

-- Untranspose leaves this in its output.
unfoldable pub untranspose_leaves : (input output : List ℕ) → List ℕ
untranspose_leaves input output = left (answer_for (transpose_takes input output)) (untranspose_of input) output
