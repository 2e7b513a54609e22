-- `contents::bodies_of` meets its contract. The loop's invariant: the sum is that of the entries passed, each of which
-- is below 2^32, and `at` is where the next one begins.
-- Assumes nothing.
use mathlib.Core.Path.{◌≡◌, sym, ap, ap₂, ◌∙◌}
use Prim.Native.Nat.{◌+◌}
use native.Mathlib.Numerals.{add-one}
use native.Mathlib.Omega.{arith}
use borrow.Author.Rules.{rules}
use Rattle.contents.specs.Contents.{bodies_size, contents_size, entry_at, entry_of}
use Rattle.contents.proofs.Sizes.{size_none, size-next, size-entry, size-before}
use Rattle.contents.proofs.bodies_of.Goals as goal
use Rattle.contents.proofs.bodies_of.Goals.{After-entry_at-e}

pub loop-i-init : goal.loop-i-init
unfolding bodies_size
loop-i-init c = (search rules, search rules, sym (size_none c.args.edition))

pub entry_at-e-requires : goal.entry_at-e-requires
entry_at-e-requires c =
    let loop = c.loop-i in
    omega (arith, loop.invariant, c.requires, size-entry c.args.edition loop.i, size-before c.args.edition loop.i c.args.n (omega arith))

-- where the next entry begins
next : (c : After-entry_at-e) → c.loop-i.at + c.entry_size-size.result
    ≡ contents_size c.args.edition (c.loop-i.i + 1)
next c =
    ap₂ ◌+◌ c.loop-i.invariant.2 c.entry_size-size.ensures ∙ sym (size-next c.args.edition c.loop-i.i)

pub overflow_add-at : goal.overflow_add-at
overflow_add-at c =
    omega (arith, next (goal.at.overflow_add-at c).After-entry_at-e, c.requires, size-before c.args.edition c.loop-i.i c.args.n (omega arith))

-- the entry that was read
entry-is : (c : After-entry_at-e) → c.entry_at-e.result ≡ entry_of c.args.front.now c.loop-i.i
unfolding entry_of
entry-is c =
    let l = c.args.front.now in
    c.entry_at-e.ensures
    ∙ ap (entry_at l) (c.loop-i.invariant.2 ∙ ap (λ e. contents_size e c.loop-i.i) c.requires.edition_value)

pub loop-i-preserved : goal.loop-i-preserved
unfolding bodies_size
loop-i-preserved c =
    let loop = c.loop-i in (
      ap₂ ◌+◌ loop.invariant.0 (ap (λ e. e.length) (entry-is (goal.at.loop-i-preserved c).After-entry_at-e)) ∙ sym (ap (bodies_size _) (add-one loop.i)),
      omega arith,
      next (goal.at.loop-i-preserved c).After-entry_at-e,
    )

pub returns : goal.returns
returns c =
    let e : c.loop-i.i ≡ c.args.n = omega arith in
    (c.loop-i.invariant.0 ∙ rw e, rw e at c.loop-i.invariant.1)
