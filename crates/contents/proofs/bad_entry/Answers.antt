-- `contents::bad_entry` meets its contract. The loop's invariant: every entry that was passed is right, and `at` is
-- where the next one begins.
-- Assumes nothing.
use mathlib.Core.Path.{◌≡◌, sym, ap₂, ◌∙◌}
use Prim.Native.Nat.{◌+◌, zero-le}
use native.Mathlib.Omega.{arith}
use borrow.Author.Count.{below_none, below_more}
use Rattle.lists.proofs.Search.{first_only}
use Rattle.contents.specs.Contents.{contents_size}
use Rattle.contents.proofs.Sizes.{size_none, size-next, size-before}
use Rattle.contents.proofs.bad_entry.Goals as goal
use Rattle.contents.proofs.bad_entry.Goals.{Else-not-is_right}

pub loop-i-init : goal.loop-i-init
loop-i-init c = (zero-le, below_none _, sym (size_none c.args.edition))

pub is_right-requires : goal.is_right-requires
is_right-requires c =
    let loop = c.loop-i in
    record { edition_value = c.requires.edition_value; at_value = loop.invariant.2; i_in_bounds = omega (arith, c.requires, size-before c.args.edition loop.i c.args.n (omega arith)) }

-- where the next entry begins
next : (c : Else-not-is_right) → c.loop-i.at + c.entry_size-size.result
    ≡ contents_size c.args.edition (c.loop-i.i + 1)
next c =
    ap₂ ◌+◌ c.loop-i.invariant.2 c.entry_size-size.ensures ∙ sym (size-next c.args.edition c.loop-i.i)

pub overflow_add-at : goal.overflow_add-at
overflow_add-at c =
    omega (arith, next (goal.at.overflow_add-at c).Else-not-is_right, c.requires, size-before c.args.edition c.loop-i.i c.args.n (omega arith))

pub loop-i-preserved : goal.loop-i-preserved
loop-i-preserved c =
    let loop = c.loop-i in (
      omega arith,
      below_more _ _ loop.invariant.1 (sym c.is_right.ensures ∙ c.if-not-is_right.false),
      next (goal.at.loop-i-preserved c).Else-not-is_right,
    )

pub returns-then-n-i : goal.returns-then-n-i
returns-then-n-i c = first_only _ _ _ c.loop-i.invariant.0 c.loop-i.invariant.1 (λ h. absurd (omega arith))

pub returns-then-not-is_right : goal.returns-then-not-is_right
returns-then-not-is_right c =
    let loop = c.loop-i in
    first_only _ _ _ loop.invariant.0 loop.invariant.1 (λ h. sym c.is_right.ensures ∙ c.if-not-is_right.true)
