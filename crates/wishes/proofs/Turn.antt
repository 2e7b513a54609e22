-- One turn of a run, by its wish.
-- Assumes nothing.
use mathlib.Core.List.{List}
use mathlib.Core.Path.{◌≡◌, ap, ◌∙◌}
use Prim.Native.Nat.{ℕ, suc, ◌-◌, ◌≤◌}
use native.Mathlib.Omega.{arith}
use lib.ListN.{length, take}
use borrow.Author.Tests.{le-leb}
use Rattle.lists.specs.Pick.{pick}
use Rattle.wishes.specs.declared.Side.{Side}
use Rattle.wishes.specs.declared.Part.{Part}
use Rattle.wishes.specs.declared.Wish.TheVariants.{Read, Write, Done}
use Rattle.wishes.specs.Runs.{Held, room_of, filled, file_on, part_at, Given, Machine, before, stops, ends, runs_by}

module _ {S : Type 0} (next : Machine S) (l m : List ℕ) where
  -- A run of at least one turn grants the wish.
  one_turn : (k : ℕ) → 1 ≤ k → k ≡ suc (k - 1)
  one_turn k h = omega arith

  -- A write that the output has stands before what is written later,
  pub wrote : (k w : ℕ) (s : S) (h : Held) (out : List ℕ) (g : Given S) → 1 ≤ k → w ≤ length out → next s h out ≡ g
      → runs_by next l m k (record { state = s; wish = Write w; out = out }) h ≡ before (take w out) (runs_by next l m (k - 1) g h)
  unfolding runs_by
  wrote k w s h out g some fits e =
      ap (λ k. runs_by next l m k (record { state = s; wish = Write w; out = out }) h) (one_turn k some)
      ∙ ap (λ t. pick t (before (take w out) (runs_by next l m (k - 1) (next s h out) h)) stops) (le-leb w (length out) fits)
      ∙ ap (λ g. before (take w out) (runs_by next l m (k - 1) g h)) e

  -- a read for which its buffer has room fills it,
  pub did_read : (k : ℕ) (side : Side) (part : Part) (at n : ℕ) (s : S) (h : Held) (out : List ℕ) (g : Given S) → 1 ≤ k → n ≤ room_of part
      → next s (filled h side part (part_at (file_on side l m) at n)) out ≡ g
      → runs_by next l m k (record { state = s; wish = Read side part at n; out = out }) h
      ≡ runs_by next l m (k - 1) g (filled h side part (part_at (file_on side l m) at n))
  unfolding runs_by
  did_read k side part at n s h out g some fits e =
      let h' = filled h side part (part_at (file_on side l m) at n) in
      ap (λ k. runs_by next l m k (record { state = s; wish = Read side part at n; out = out }) h) (one_turn k some)
      ∙ ap (λ t. pick t (runs_by next l m (k - 1) (next s h' out) h') stops) (le-leb n (room_of part) fits)
      ∙ ap (λ g. runs_by next l m (k - 1) g h') e

  -- and a run that wishes for nothing more has ended.
  pub ended : (k : ℕ) (s : S) (h : Held) (out : List ℕ) → 1 ≤ k → runs_by next l m k (record { state = s; wish = Done; out = out }) h ≡ ends
  unfolding runs_by
  ended k s h out some = ap (λ k. runs_by next l m k (record { state = s; wish = Done; out = out }) h) (one_turn k some)
