-- A machine that wishes for parts of two files and for writes, and what a run of it writes where every wish is granted:
-- a read gives what the file has there, and a write writes. This says what a program does that drives a machine, and is
-- to be read beside its loop.
-- Assumes nothing.
use Rattle.std.specs.Prelude.{Bool, true, false, List, [], ◌++◌, ℕ, zero, suc, leb, length, take, drop}
use Rattle.lists.specs.Pick.{pick}
use Rattle.wishes.specs.declared.Side.{Side}
use Rattle.wishes.specs.declared.Side.TheVariants.{Left, Right}
use Rattle.wishes.specs.declared.Part.{Part}
use Rattle.wishes.specs.declared.Part.TheVariants.{Front, Body}
use Rattle.wishes.specs.declared.Wish.{Wish}
use Rattle.wishes.specs.declared.Wish.TheVariants.{Read, Write, Done}

-- ---- the buffers

-- Each file has two buffers, and each holds just what the last read into it gave.
pub record Held : Type 0 where
  pub left_front_lem : List ℕ
  pub right_front_lem : List ℕ
  pub left_body_lem : List ℕ
  pub right_body_lem : List ℕ

-- These are the buffers by what they hold.
abbrev pub held : (left_front_lem right_front_lem left_body_lem right_body_lem : List ℕ) → Held
held lf rf lb rb = record { left_front_lem = lf; right_front_lem = rf; left_body_lem = lb; right_body_lem = rb }

-- A buffer of a front has room for the longest contents, and one of a body for the longest body.
abbrev pub room_of : Part → ℕ
room_of Front = 8196
room_of Body = 10240

-- A read puts these bytes in the place of what its buffer held.
abbrev pub filled : (h : Held) (side : Side) (part : Part) (bytes : List ℕ) → Held
filled h Left Front bytes = held bytes h.right_front_lem h.left_body_lem h.right_body_lem
filled h Right Front bytes = held h.left_front_lem bytes h.left_body_lem h.right_body_lem
filled h Left Body bytes = held h.left_front_lem h.right_front_lem bytes h.right_body_lem
filled h Right Body bytes = held h.left_front_lem h.right_front_lem h.left_body_lem bytes

-- ---- the files

-- Of two files this is the one on a side.
abbrev pub file_on : (side : Side) (l m : List ℕ) → List ℕ
file_on Left l m = l
file_on Right l m = m

-- These are the n bytes of a file from place `at` on, as far as they are there.
abbrev pub part_at : (file : List ℕ) (at n : ℕ) → List ℕ
part_at file at n = take n (drop at file)

-- ---- the machine

-- A turn gives a state of the machine, a wish, and what the output holds.
pub record Given (S : Type 0) : Type 0 where
  pub state : S
  pub wish : Wish
  pub out : List ℕ

-- A machine is a rule for the next turn.
abbrev pub Machine : Type 0 → Type 0
Machine S = S → (h : Held) (out : List ℕ) → Given S

-- ---- its runs

-- A run has written these bytes, one write after another, and has ended or not.
pub record Ran : Type 0 where
  pub written : List ℕ
  pub ended : Bool

-- Bytes are written before all that is written later.
abbrev pub before : (bytes : List ℕ) (later : Ran) → Ran
before bytes later = record { written = bytes ++ later.written; ended = later.ended }

-- A run that stops before it has ended writes nothing more.
abbrev pub stops : Ran
stops = record { written = []; ended = false }

-- A run that has ended writes nothing more either.
abbrev pub ends : Ran
ends = record { written = []; ended = true }

-- This test says that a read is of no more than its buffer has room for, and a write of no more than the output has.
abbrev pub is_within : (wish : Wish) (out : List ℕ) → Bool
is_within (Read side part at n) out = leb n (room_of part)
is_within (Write n) out = leb n (length out)
is_within Done out = true

-- This is what is done with a wish, and then the run goes on: a read fills its buffer, and a write writes the front of
-- the output.
abbrev pub carried_out : (l m : List ℕ) (wish : Wish) (h : Held) (out : List ℕ) (on : Held → Ran) → Ran
carried_out l m (Read side part at n) h out on = on (filled h side part (part_at (file_on side l m) at n))
carried_out l m (Write n) h out on = before (take n out) (on h)
carried_out l m Done h out on = ends

-- A wish that is within its buffer is granted. One that is not stops the run.
abbrev pub granted : (l m : List ℕ) (wish : Wish) (h : Held) (out : List ℕ) (on : Held → Ran) → Ran
granted l m wish h out on = pick (is_within wish out) (carried_out l m wish h out on) stops

-- A run of so many turns grants a wish in each, and takes the next turn.
unfoldable pub runs_by : {S : Type 0} → (next : Machine S) (l m : List ℕ) (turns : ℕ) (g : Given S) (h : Held) → Ran
runs_by next l m zero g h = stops
runs_by next l m (suc k) g h = granted l m g.wish h g.out (λ h. runs_by next l m k (next g.state h g.out) h)
