-- The numbers of a state tell it again. So a program that lends each call the numbers that the call before left runs
-- the machine of the crate listing, and writes what that one does. And what is handed over for what a turn gave is
-- handed over for what its contract says that it gives, as Handed has it.
-- Assumes nothing.
use mathlib.Core.Path.{◌≡◌, refl, subst, ap, ◌∙◌}
use mathlib.Core.List.{List}
use Prim.Native.Nat.{ℕ, zero, suc, ◌≤◌, ◌<◌}
use lib.Dec.{leb}
use lib.ListN.{length, take}
use Rattle.lists.specs.Pick.{pick}
use Rattle.wishes.specs.declared.Side.{Side}
use Rattle.wishes.specs.declared.Side.TheVariants.{Left, Right}
use Rattle.wishes.specs.declared.Wish.{Wish}
use Rattle.wishes.specs.declared.Wish.TheVariants.{Read, Write, Done}
use Rattle.wishes.specs.Runs.{Held, Given, Ran, room_of, filled, file_on, part_at, before, stops, granted, runs_by}
use Rattle.listing.specs.declared.Stage.{Stage}
use Rattle.listing.specs.declared.Stage.TheVariants.{Head, Front, Checking, Checked, Between, Again, End}
use Rattle.listing.specs.declared.State.{State}
use Rattle.listing.specs.declared.Turn.{Turn}
use Rattle.listing.specs.Text.{listing_of, turns_of}
use Rattle.listing.specs.Machine.{given, start_of, next_of}
use Rattle.listing.proofs.Checks.{printed}
use Rattle.listing.proofs.Runs.{prints}
use Rattle.exports.specs.MachineHanded.{side_number, side_of, stage_number, stage_side, stage_of}
use Rattle.exports.specs.MachineHanded.{state_numbers, state_of, TurnHanded, numbered, next_numbers}

-- The number of a side tells it again,
pub side_told : (side : Side) → side_of (side_number side) ≡ side
side_told Left = refl
side_told Right = refl

-- the numbers of a stage do,
pub stage_told : (stage : Stage) → stage_of (stage_number stage) (side_of (stage_side stage)) ≡ stage
stage_told (Head side) = ap Head (side_told side)
stage_told (Front side) = ap Front (side_told side)
stage_told (Checking side) = ap Checking (side_told side)
stage_told Checked = refl
stage_told Between = refl
stage_told (Again side) = ap Again (side_told side)
stage_told End = refl

-- and so do those of a state.
pub state-told : (s : State) → state_of (state_numbers s) ≡ s
state-told s =
    ap (λ stage. record {
      stage = stage;
      number = s.number;
      left = s.left;
      right = s.right;
      differences = s.differences;
    })
    (stage_told s.stage)

-- A wish is granted in the same way, where what comes behind it is the same.
granted_on : (l m : List ℕ) (wish : Wish) (h : Held) (out : List ℕ) {a b : Held → Ran}
    → ((h : Held) → a h ≡ b h) → granted l m wish h out a ≡ granted l m wish h out b
granted_on l m (Read side part at n) h out same =
    ap (λ r. pick (leb n (room_of part)) r stops) (same (filled h side part (part_at (file_on side l m) at n)))
granted_on l m (Write n) h out same = ap (λ r. pick (leb n (length out)) (before (take n out) r) stops) (same h)
granted_on l m Done h out same = refl

-- A run on numbers writes what the run of the machine writes, and ends where it does.
pub numbers-run : (l m : List ℕ) (k : ℕ) (g : Given State) (h : Held)
    → runs_by next_numbers l m k (numbered g) h ≡ runs_by next_of l m k g h
unfolding runs_by
numbers-run l m zero g h = refl
numbers-run l m (suc k) g h =
    granted_on l m g.wish h g.out
    (λ h.
    ap (λ s. runs_by next_numbers l m k (numbered (next_of s h g.out)) h) (state-told g.state)
    ∙ numbers-run l m k (next_of g.state h g.out) h)

-- So it prints what is to be printed of two files, as `prints` has it.
pub numbers_print : (l m : List ℕ) (h : Held) (out : List ℕ) (k : ℕ)
    → length l < 18446744073709551616 → length m < 18446744073709551616 → 65536 ≤ length out → turns_of l m ≤ k
    → runs_by next_numbers l m k (numbered (given (start_of (length l) (length m)) out)) h ≡ printed (listing_of l m)
numbers_print l m h out k left-fits right-fits room enough =
    numbers-run l m k (given (start_of (length l) (length m)) out) h ∙ prints l m h out k left-fits right-fits room enough

pub turn_on : {a b : Turn} {numbers : List ℕ} {what side part start length : ℕ}
    → a ≡ b → TurnHanded a numbers what side part start length → TurnHanded b numbers what side part start length
turn_on {numbers = numbers} {what = what} {side = side} {part = part} {start = start} {length = length} =
    subst (λ x. TurnHanded x numbers what side part start length)
