-- `contents::range_of` meets its contract: in edition 2 the range is read, and in edition 1 there is none.
-- Assumes nothing.
use mathlib.Core.Path.{sym, ap, ◌∙◌}
use Prim.Native.Nat.{◌+◌}
use native.Mathlib.Omega.{arith}
use Rattle.contents.specs.Contents.{contents_size, range_at_lem}
use Rattle.contents.proofs.Entries.{range_second, range_other}
use Rattle.contents.proofs.Sizes.{size-range}
use Rattle.contents.proofs.range_of.Goals as goal

pub contents_size-requires : goal.contents_size-requires
contents_size-requires c =
    let args = c.args in
    omega (arith, size-range args.edition args.i c.if-edition-eq2.true)

pub overflow_add-contents_size : goal.overflow_add-contents_size
overflow_add-contents_size c =
    let args = c.args in
    omega (arith, c.contents_size.ensures, size-range args.edition args.i c.if-edition-eq2.true)

pub range_at-requires : goal.range_at-requires
range_at-requires c =
    let args = c.args in
    omega (arith, c.contents_size.ensures, size-range args.edition args.i c.if-edition-eq2.true)

pub returns-then-edition-eq2 : goal.returns-then-edition-eq2
returns-then-edition-eq2 c =
    let l = c.args.front.now in
    c.range_at.ensures
    ∙ ap (λ k. range_at_lem l (k + 16)) (c.contents_size.ensures ∙ ap (λ e. contents_size e c.args.i) c.requires.edition_value)
    ∙ sym (range_second l c.args.i (sym c.requires.edition_value ∙ c.if-edition-eq2.true))

pub returns : goal.returns
returns c =
    c.any_range.ensures ∙ sym (range_other c.args.front.now c.args.i (λ e. c.if-edition-eq2.false (c.requires.edition_value ∙ e)))
