-- A packed u64 body that comes in chunks (R70 to R75): what a state counts as, and what start, feed and ask give for
-- every input.
-- Assumes nothing.
use Rattle.std.specs.Prelude.{Bool, List, [], ◌∷◌, ◌++◌, ◌≡◌, ℕ, ◌+◌, ◌-◌, ◌*◌, min, leb, length, take, replicate}
use Rattle.lists.specs.Tests.{Test, long}
use Rattle.lists.specs.Pick.{pick, both}
use Rattle.lists.specs.Tab.{over}
use Rattle.places.specs.Sizes.{t64, lanes}
use Rattle.packing.specs.Packed.{unpack_of}
use Rattle.little.specs.Little.{numbers_of}
use Rattle.trickle.specs.declared.State.{State}
use Rattle.trickle.specs.declared.Started.{Started}
use Rattle.trickle.specs.declared.Fed.{Fed}
use Rattle.trickle.specs.declared.TrickleAnswer.{TrickleAnswer}
use Rattle.trickle.specs.declared.TrickleAnswer.TheVariants.{Width, Block, Early}
use Rattle.trickle.specs.Answers.{trickle_answer, left}

-- A body of width w has so many bytes.
abbrev pub body_size : (w : ℕ) → ℕ
body_size w = 128 * w

-- ---- start

-- A start tests the width.
abbrev pub start_answer : (w : ℕ) → TrickleAnswer
start_answer w = trickle_answer ((leb w 64, Width) ∷ [])

-- It gives the state of that width with nothing held, and where it is refused that of width 0. All the room holds
-- zeros.
unfoldable pub started_of : (w : ℕ) → Started
started_of w = record {
  answer = start_answer w;
  state = record { width = left (start_answer w) w 0; held = 0; room = replicate 8192 0 };
}

-- ---- what a state counts as

-- This test says that a state can be the state of a body: its width is at most 64, and it holds no more bytes than
-- the body has.
abbrev pub can_be : (width held : ℕ) → Bool
can_be width held = both (leb width 64) (leb held (body_size width))

-- A state that can be counts as itself, and one that cannot be as the state of width 0, which is the one that a
-- refused start gives.
unfoldable pub counts_as : (s : State) → State
counts_as s = pick (can_be s.width s.held) s (started_of 0).state

-- So this is the width that a state counts as having,
abbrev pub width_of : (s : State) → ℕ
width_of s = (counts_as s).width

-- this is how many bytes it counts as holding,
abbrev pub count_of : (s : State) → ℕ
count_of s = (counts_as s).held

-- and these are the bytes: they stand at the front of the room.
unfoldable pub held_of : (s : State) → List ℕ
held_of s = take (count_of s) (counts_as s).room

-- ---- feed

-- A feed takes the chunk, or what the body still lacks, whichever is shorter.
unfoldable pub taken_of : (s : State) (chunk : List ℕ) → ℕ
taken_of s chunk = min (length chunk) (body_size (width_of s) - count_of s)

-- It gives the state that this one counts as, with the bytes that were taken written behind those held. All other
-- bytes of that state's room are as they were.
unfoldable pub state_after : (s : State) (chunk : List ℕ) → State
state_after s chunk = record {
  width = width_of s;
  held = count_of s + taken_of s chunk;
  room = over (count_of s) (take (taken_of s chunk) chunk) (counts_as s).room;
}

-- It says how many bytes it took.
unfoldable pub fed_of : (s : State) (chunk : List ℕ) → Fed
fed_of s chunk = record { taken = taken_of s chunk; state = state_after s chunk }

-- ---- ask

-- Ask tests its output, and whether the bytes of the body are all there. Where they are not, it says how many are held.
abbrev pub ask_tests : (output : List ℕ) (needed held : ℕ) → List (Test TrickleAnswer)
ask_tests output needed held = (long 1024 output, Block) ∷ (leb needed held, Early held) ∷ []

-- At width 0 there are none to wait for.
unfoldable pub ask_answer : (s : State) (output : List ℕ) → TrickleAnswer
ask_answer s output = trickle_answer (ask_tests output (body_size (width_of s)) (count_of s))

-- The words of the body are the numbers of eight bytes each that the bytes held make, LANES for each bit of the width.
unfoldable pub words_of : (s : State) → List ℕ
words_of s = numbers_of 8 (held_of s) (lanes t64 * width_of s)

-- The values are those that the words unpack to.
unfoldable pub values_of : (s : State) → List ℕ
values_of s = unpack_of t64 (width_of s) (words_of s)

-- Ask leaves this in its output.
unfoldable pub ask_leaves : (s : State) (output : List ℕ) → List ℕ
ask_leaves s output = left (ask_answer s output) (values_of s) output

-- ---- many feeds

-- These chunks are fed one after another. The bytes that each feed takes are added up.
unfoldable pub fed_all : (s : State) (chunks : List (List ℕ)) → Fed
fed_all s [] = record { taken = 0; state = s }
fed_all s (chunk ∷ chunks) = record {
  taken = taken_of s chunk + (fed_all (state_after s chunk) chunks).taken;
  state = (fed_all (state_after s chunk) chunks).state;
}

-- These are the bytes of all chunks, one chunk after another.
unfoldable pub bytes_of_all : (chunks : List (List ℕ)) → List ℕ
bytes_of_all [] = []
bytes_of_all (chunk ∷ chunks) = chunk ++ bytes_of_all chunks

-- Two states hold the same: they count as having one width, and the same bytes held.
pub record Same (a b : State) : Type 0 where
  pub width : width_of a ≡ width_of b
  pub bytes : held_of a ≡ held_of b
