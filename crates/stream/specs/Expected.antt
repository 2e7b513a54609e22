-- When a case is as the stream expects.
-- Assumes nothing.
use Rattle.std.specs.Prelude.{◌≡◌, ℕ, ◌<◌, Bool, List, ◌==◌, slice_index}
use Rattle.lists.specs.Pick.{pick, both}
use Rattle.stream.specs.declared.Head.{Head}
use Rattle.stream.specs.declared.Reply.{Reply}
use Rattle.stream.specs.declared.Reply.TheVariants.{Unknown, Given}
use Rattle.stream.specs.declared.Step.{Step}
use Rattle.stream.specs.declared.Step.TheVariants.{Bad, Same, Differs}

-- The first n elements of two buffers are the same.
abbrev pub Agree : ℕ → List ℕ → List ℕ → Type 0
Agree n x y = (k : ℕ) → k < n → slice_index x k ≡ slice_index y k

-- What a call gave back is what the head says. A call that a program does not know is never as expected.
abbrev pub GivenAsExpected : Head → Reply → Type 0
GivenAsExpected head Unknown = ⊥
GivenAsExpected head (Given number place value reference index) =
    (number ≡ head.number)
    × (place ≡ head.place)
    × (value ≡ head.value)
    × (reference ≡ head.reference)
    × (index ≡ head.index)

-- So is what it left in its buffers c and d, by the buffers c' and d'.
abbrev pub AsExpected : Head → Reply → (c c' d d' : List ℕ) → Type 0
AsExpected head reply c c' d d' = GivenAsExpected head reply × Agree head.n_c c c' × Agree head.n_d d d'

-- The same of what a call gave back, as a test.
abbrev pub is_as_expected : Head → (number place value reference index : ℕ) → Bool
is_as_expected head number place value reference index =
    both (number == head.number)
    (both (place == head.place)
    (both (value == head.value) (both (reference == head.reference) (index == head.index))))

-- What comes of a case, from what its call gave back and from whether its buffers were left as expected.
abbrev pub step_of : Head → Reply → (buffers : Bool) → Step
step_of head Unknown buffers = Bad
step_of head (Given number place value reference index) buffers =
    pick (both (is_as_expected head number place value reference index) buffers) Same (Differs head)

-- The reply with another reference.
abbrev pub with_reference : (reference : ℕ) → Reply → Reply
with_reference reference Unknown = Unknown
with_reference reference (Given number place value old index) = Given number place value reference index

-- The reply with another index.
abbrev pub with_index : (index : ℕ) → Reply → Reply
with_index index Unknown = Unknown
with_index index (Given number place value reference old) = Given number place value reference index
