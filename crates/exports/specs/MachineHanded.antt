-- How a state and a wish of the machine that lists what two files differ in cross to a program in C or in Rust: as
-- numbers. Any numbers tell a state, so a program cannot hand over one for which nothing is promised, and the
-- numbers of a state tell that state again, which is a theorem.
-- Assumes nothing.
use Rattle.std.specs.Prelude.{◌≡◌, List, [], ◌∷◌, ℕ, eqb, get_or}
use Rattle.lists.specs.Pick.{pick}
use Rattle.wishes.specs.declared.Side.{Side}
use Rattle.wishes.specs.declared.Side.TheVariants.{Left, Right}
use Rattle.wishes.specs.declared.Part.{Part}
use Rattle.wishes.specs.declared.Part.TheVariants.{Front as OfFront, Body as OfBody}
use Rattle.wishes.specs.declared.Wish.{Wish}
use Rattle.wishes.specs.declared.Wish.TheVariants.{Read, Write, Done}
use Rattle.listing.specs.declared.Stage.{Stage}
use Rattle.listing.specs.declared.Stage.TheVariants.{Head, Front, Checking, Checked, Between, Again, End}
use Rattle.listing.specs.declared.State.{State}
use Rattle.listing.specs.declared.Turn.{Turn}
use Rattle.wishes.specs.Runs.{Given, Machine}
use Rattle.listing.specs.Machine.{next_of}

-- ---- a side and a part of a file

-- The left file is 0, and the right one 1,
abbrev pub side_number : Side → ℕ
side_number Left = 0
side_number Right = 1

-- and any other number than 0 tells the right one too.
abbrev pub side_of : (number : ℕ) → Side
side_of n = pick (eqb n 0) Left Right

-- The buffer for the front of a file is 0, and that for a body 1.
abbrev pub part_number : Part → ℕ
part_number OfFront = 0
part_number OfBody = 1

-- ---- a stage

-- The stages are numbered in their order,
abbrev pub stage_number : Stage → ℕ
stage_number (Head side) = 0
stage_number (Front side) = 1
stage_number (Checking side) = 2
stage_number Checked = 3
stage_number Between = 4
stage_number (Again side) = 5
stage_number End = 6

-- and have the number of their side too, which is 0 where they have no side.
abbrev pub stage_side : Stage → ℕ
stage_side (Head side) = side_number side
stage_side (Front side) = side_number side
stage_side (Checking side) = side_number side
stage_side Checked = 0
stage_side Between = 0
stage_side (Again side) = side_number side
stage_side End = 0

-- A stage is told by both numbers. A number that no other stage has tells the end.
abbrev pub stage_of : (number : ℕ) (side : Side) → Stage
stage_of n side = get_or (Head side ∷ Front side ∷ Checking side ∷ Checked ∷ Between ∷ Again side ∷ []) n End

-- ---- a state

-- A state is eight numbers: its stage and the side of that, the number of the block, the size of each file and where
-- the block's body begins in it, and the differences.
abbrev pub state_numbers : State → List ℕ
state_numbers s =
    stage_number s.stage ∷ stage_side s.stage ∷ s.number
    ∷ s.left.size ∷ s.left.at ∷ s.right.size ∷ s.right.at ∷ s.differences ∷ []

-- These tell the state.
abbrev pub state_of : (numbers : List ℕ) → State
state_of numbers = record {
  stage = stage_of (get_or numbers 0 0) (side_of (get_or numbers 1 0));
  number = get_or numbers 2 0;
  left = record { size = get_or numbers 3 0; at = get_or numbers 4 0 };
  right = record { size = get_or numbers 5 0; at = get_or numbers 6 0 };
  differences = get_or numbers 7 0;
}

-- ---- a wish

-- Nothing more is 0, a read 1 and a write 2.
abbrev pub wish_number : Wish → ℕ
wish_number (Read side part at n) = 1
wish_number (Write n) = 2
wish_number Done = 0

-- A read is of a side,
abbrev pub wish_side : Wish → ℕ
wish_side (Read side part at n) = side_number side
wish_side (Write n) = 0
wish_side Done = 0

-- and into a part, from a place on.
abbrev pub wish_part : Wish → ℕ
wish_part (Read side part at n) = part_number part
wish_part (Write n) = 0
wish_part Done = 0

abbrev pub wish_start : Wish → ℕ
wish_start (Read side part at n) = at
wish_start (Write n) = 0
wish_start Done = 0

-- A read and a write are of so many bytes.
abbrev pub wish_length : Wish → ℕ
wish_length (Read side part at n) = n
wish_length (Write n) = n
wish_length Done = 0

-- ---- a turn

-- Of a turn the numbers of the state and of the wish are handed over.
pub record TurnHanded (t : Turn) (state : List ℕ) (what side part start length : ℕ) : Type 0 where
  pub its_state : state ≡ state_numbers t.state
  pub its_what : what ≡ wish_number t.wish
  pub its_side : side ≡ wish_side t.wish
  pub its_part : part ≡ wish_part t.wish
  pub its_start : start ≡ wish_start t.wish
  pub its_length : length ≡ wish_length t.wish

-- ---- the machine

-- This is the machine on numbers: what a program runs that lends each call the numbers that the call before left.
abbrev pub numbered : Given State → Given (List ℕ)
numbered g = record { state = state_numbers g.state; wish = g.wish; out = g.out }

abbrev pub next_numbers : Machine (List ℕ)
next_numbers numbers h out = numbered (next_of (state_of numbers) h out)
