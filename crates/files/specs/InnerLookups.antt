-- What the lookup of one value in a body of packed words gives. Private steps name these; no public contract does.
-- Assumes nothing.
use Rattle.std.specs.Prelude.{◌≡◌, ℕ, List}
use Rattle.lists.specs.Numbers.{digit}
use Rattle.places.specs.Sizes.{t64}
use Rattle.packing.specs.Packed.{words_number, value_at}
use Rattle.access.specs.Counts.{words_read, count_at}
use Rattle.bodies.specs.Bodies.{packed_from}
use Rattle.files.specs.declared.lookup.Looked.{Looked}

-- What was looked up is the value at a place of the packed words of the body, and as many words as it stands in.
pub record LookedUp (w : ℕ) (body : List ℕ) (place : ℕ) (found : Looked) : Type 0 where
  pub its_value : found.value ≡ value_at t64 w (packed_from body 0 w) place
  pub its_words : found.words ≡ count_at t64 w place

-- The same by lane and row.
pub record ReadIn (w : ℕ) (body : List ℕ) (l r : ℕ) (found : Looked) : Type 0 where
  pub its_value : found.value ≡ digit w (words_number t64 w (packed_from body 0 w) l) r
  pub its_words : found.words ≡ words_read t64 w r
