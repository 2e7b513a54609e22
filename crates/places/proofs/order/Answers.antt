-- `places::order` meets its contract: each arm is an entry of the order list, and past its end the list gives 0.
-- Assumes nothing.
use mathlib.Core.Path.{sym, ap}
use mathlib.Core.List.{[], ◌∷◌}
use mathlib.Core.Logic.{◌≢◌}
use Prim.Native.Nat.{ℕ, ◌+◌, ◌≤◌}
use native.Mathlib.Omega.{arith}
use lib.ListN.{get_or-eq_default}
use Rattle.places.specs.Places.{order}
use Rattle.places.proofs.order.Goals as goal

-- a number that is none of the next four is beyond them
past : (k n : ℕ) → k ≤ n → n ≢ k → n ≢ k + 1 → n ≢ k + 2 → n ≢ k + 3 → k + 4 ≤ n
past k n h a b c d = omega arith

pub returns-in-0 : goal.returns-in-0
unfolding order
returns-in-0 c = sym (ap order c.in-0.is)

pub returns-in-1 : goal.returns-in-1
unfolding order
returns-in-1 c = sym (ap order c.in-1.is)

pub returns-in-2 : goal.returns-in-2
unfolding order
returns-in-2 c = sym (ap order c.in-2.is)

pub returns-in-3 : goal.returns-in-3
unfolding order
returns-in-3 c = sym (ap order c.in-3.is)

pub returns-in-4 : goal.returns-in-4
unfolding order
returns-in-4 c = sym (ap order c.in-4.is)

pub returns-in-5 : goal.returns-in-5
unfolding order
returns-in-5 c = sym (ap order c.in-5.is)

pub returns-in-6 : goal.returns-in-6
unfolding order
returns-in-6 c = sym (ap order c.in-6.is)

pub returns-in-7 : goal.returns-in-7
unfolding order
returns-in-7 c = sym (ap order c.in-7.is)

pub returns-in_default : goal.returns-in_default
unfolding order
returns-in_default c =
    let h : 8 ≤ c.args.n = omega arith in
    sym (get_or-eq_default (0 ∷ 4 ∷ 2 ∷ 6 ∷ 1 ∷ 5 ∷ 3 ∷ 7 ∷ []) 0 h)
