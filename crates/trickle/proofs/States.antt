-- What a state counts as: itself, or the state of a refused start; in either case one with a width of at most 64, and
-- with no more bytes held than the body of that width has.
-- Assumes nothing.
use mathlib.Core.Bool.{Bool, true, false}
use mathlib.Core.Path.{◌≡◌, refl, sym, ap, subst}
use Prim.Native.Nat.{ℕ, ◌≤◌, ◌<◌}
use native.Mathlib.Decide.{dec_le}
use native.Mathlib.Omega.{arith}
use lib.ListN.{length, length-replicate}
use lib.Seq.{length-take-le}
use borrow.Author.Tests.{leb-true, le-leb, lt-leb}
use Rattle.lists.specs.Pick.{pick}
use Rattle.lists.proofs.Tests.{both_true}
use Rattle.trickle.specs.declared.State.{State}
use Rattle.trickle.specs.Answers.{trickle_answer}
use Rattle.trickle.specs.Trickle.{body_size, can_be, started_of, counts_as, width_of, count_of, held_of}

-- The width that counts is at most 64, and no more bytes count as held than the body has.
abbrev pub Limits : (s : State) → Type 0
Limits s = (s.width ≤ 64) × (s.held ≤ body_size s.width)

module _ (s : State) where
  pub counted : Limits (counts_as s)
  unfolding counts_as started_of trickle_answer
  counted = go (can_be s.width s.held) refl
    where
      go : (b : Bool) → can_be s.width s.held ≡ b → Limits (pick b s (started_of 0).state)
      go true e = let each = both_true _ _ e in (leb-true s.width 64 each.0, leb-true s.held (body_size s.width) each.1)
      go false e = (omega arith, omega arith)

  pub counted-as : {c : State} → c ≡ counts_as s → Limits c
  counted-as e = subst Limits (sym e) counted

  -- Its room is as long.
  pub counts_long : length s.room ≡ 8192 → length (counts_as s).room ≡ 8192
  unfolding counts_as started_of
  counts_long long = go (can_be s.width s.held)
    where
      go : (b : Bool) → length (pick b s (started_of 0).state).room ≡ 8192
      go true = long
      go false = length-replicate {A = ℕ} 8192 0

  -- It holds as many bytes as it counts as holding.
  pub length-held : length s.room ≡ 8192 → length (held_of s) ≡ count_of s
  unfolding held_of
  length-held long = length-take-le (count_of s) (counts_as s).room (omega (arith, counted.0, counted.1, counts_long long))

-- A state that can be counts as itself.
module _ (s : State) (within : Limits s) where
  can_be_lem : can_be s.width s.held ≡ true
  can_be_lem = simp (le-leb s.width 64 within.0, le-leb s.held (body_size s.width) within.1)

  pub itself : counts_as s ≡ s
  unfolding counts_as
  itself = ap (λ b. pick b s (started_of 0).state) can_be_lem

-- So does the state that a state counts as.
pub counts_twice : (s : State) → counts_as (counts_as s) ≡ counts_as s
counts_twice s = itself (counts_as s) (counted s)

-- More bytes than the body has cannot be held, at any width.
pub too_many : (w h : ℕ) → body_size w < h → can_be w h ≡ false
too_many w h g =
    elim (dec_le w 64) [
      | yes narrow ↦ simp (le-leb w 64 narrow, lt-leb h (body_size w) g)
      | no other ↦ let wide : 64 < w = omega arith in simp (lt-leb w 64 wide)
    ]

-- A state that cannot be counts as the state of width 0.
module _ (s : State) (bad : can_be s.width s.held ≡ false) where
  pub cannot_be : counts_as s ≡ (started_of 0).state
  unfolding counts_as
  cannot_be = ap (λ b. pick b s (started_of 0).state) bad

  pub cannot_width : width_of s ≡ 0
  unfolding started_of trickle_answer
  cannot_width = ap (λ c. c.width) cannot_be
