-- `contents::is_right` meets its contract: in edition 2 the entry, its kind and its range are tested, and in edition 1
-- the entry alone.
-- Assumes nothing.
use mathlib.Core.Path.{◌≡◌, sym, ap, ap₂, ◌∙◌}
use Prim.Native.Nat.{◌+◌}
use native.Mathlib.Omega.{arith}
use lib.Dec.{ltb}
use Rattle.lists.specs.Pick.{both}
use Rattle.contents.specs.Contents.{edition, contents_size, entry_at, entry_of, range_at_lem, is_laid_out, is_ordered}
use Rattle.contents.proofs.Entries.{right_second, right-other}
use Rattle.contents.proofs.Sizes.{size-entry, size-range}
use Rattle.contents.proofs.is_right.Goals as goal
use Rattle.contents.proofs.is_right.Goals.{After-entry_at-e, Start}

-- where the entry stands, and so the entry that was read
at-is : (c : Start) → c.args.at ≡ contents_size (edition c.args.front.now) c.args.i
at-is c = c.requires.at_value ∙ ap (λ e. contents_size e c.args.i) c.requires.edition_value

entry-is : (c : After-entry_at-e) → c.entry_at-e.result ≡ entry_of c.args.front.now c.args.i
unfolding entry_of
entry-is c = c.entry_at-e.ensures ∙ ap (entry_at c.args.front.now) (let it : c.args.at ≡ contents_size (edition c.args.front.now) c.args.i = c.requires.at_value ∙ ap (λ e. contents_size e c.args.i) c.requires.edition_value in it)

pub entry_at-e-requires : goal.entry_at-e-requires
entry_at-e-requires c = let args = c.args in omega (arith, size-entry args.edition args.i)

pub overflow_add-at : goal.overflow_add-at
overflow_add-at c = omega (arith, c.requires, size-range c.args.edition c.args.i c.if-edition-eq2.true)

pub range_at-requires : goal.range_at-requires
range_at-requires c = omega (arith, c.requires, size-range c.args.edition c.args.i c.if-edition-eq2.true)

pub returns-then-edition-eq2 : goal.returns-then-edition-eq2
returns-then-edition-eq2 c =
    let l = c.args.front.now in
    ap₂ both
    (c.is_laid_out.ensures ∙ ap is_laid_out (entry-is (goal.at.returns-then-edition-eq2 c).After-entry_at-e))
    (ap₂ both
    (ap (λ e. ltb e.kind 3) (entry-is (goal.at.returns-then-edition-eq2 c).After-entry_at-e))
    (c.is_ordered.ensures ∙ ap is_ordered (c.range_at.ensures ∙ ap (λ k. range_at_lem l (k + 16)) (at-is (goal.at.returns-then-edition-eq2 c).Start))))
    ∙ sym (right_second l c.args.i (sym c.requires.edition_value ∙ c.if-edition-eq2.true))

pub returns : goal.returns
returns c =
    c.is_laid_out-2.ensures
    ∙ ap is_laid_out (entry-is (goal.at.returns c).After-entry_at-e)
    ∙ sym (right-other c.args.front.now c.args.i (λ e. c.if-edition-eq2.false (c.requires.edition_value ∙ e)))
