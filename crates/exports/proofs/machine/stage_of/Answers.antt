-- `stage_of` tells the stage that has the number: each arm is an entry of the list of stages, and past its end the list
-- gives the end.
-- Assumes nothing.
use mathlib.Core.Path.{sym, ap}
use mathlib.Core.List.{[], ◌∷◌}
use mathlib.Core.Logic.{◌≢◌}
use Prim.Native.Nat.{ℕ, ◌+◌, ◌≤◌}
use native.Mathlib.Omega.{arith}
use lib.ListN.{get_or-eq_default}
use Rattle.wishes.specs.declared.Side.{Side}
use Rattle.listing.specs.declared.Stage.{Stage}
use Rattle.listing.specs.declared.Stage.TheVariants.{Head, Front, Checking, Checked, Between, Again, End}
use Rattle.exports.specs.MachineHanded.{stage_of}
use Rattle.exports.proofs.machine.stage_of.Goals as goal

-- the stage of a side, by the number
at : (side : Side) (n : ℕ) → Stage
at side n = stage_of n side

-- a number that is none of the next three is beyond them
past : (k n : ℕ) → k ≤ n → n ≢ k → n ≢ k + 1 → n ≢ k + 2 → k + 3 ≤ n
past k n h a b c = omega arith

pub returns-in-0 : goal.returns-in-0
unfolding at
returns-in-0 c = sym (ap (at c.args.side) c.in-0.is)

pub returns-in-1 : goal.returns-in-1
unfolding at
returns-in-1 c = sym (ap (at c.args.side) c.in-1.is)

pub returns-in-2 : goal.returns-in-2
unfolding at
returns-in-2 c = sym (ap (at c.args.side) c.in-2.is)

pub returns-in-5 : goal.returns-in-5
unfolding at
returns-in-5 c = sym (ap (at c.args.side) c.in-5.is)

pub returns-in_default : goal.returns-in_default
returns-in_default c =
    let side = c.args.side in
    let h : 6 ≤ c.args.number = omega arith in
    sym (get_or-eq_default (Head side ∷ Front side ∷ Checking side ∷ Checked ∷ Between ∷ Again side ∷ []) End h)
