-- `renumber::is_told` meets its contract: in edition 1 there is no range, and in edition 2 the two are held to each other.
-- Assumes nothing.
use mathlib.Core.Bool.{true}
use mathlib.Core.Path.{◌≡◌, sym, ap, ap₂, ◌∙◌}
use lib.Dec.{eqb}
use borrow.Author.Tests.{eq-eqb, ne_eqb}
use Rattle.lists.specs.Pick.{pick, both}
use Rattle.contents.specs.declared.Range.{Range}
use Rattle.contents.specs.Contents.{edition, range_of}
use Rattle.bodies.specs.Ranges.{is_range}
use Rattle.bodywise.proofs.Told.{edition-read, range-read}
use Rattle.files.specs.Files.{block_in, has_true_range}
use Rattle.files.proofs.Ranges.{contents-right}
use Rattle.renumber.proofs.is_told.Goals as goal

pub returns-then-edition-ne2 : goal.returns-then-edition-ne2
unfolding has_true_range
returns-then-edition-ne2 c =
    let l = c.args.file.now in
    let i = c.args.i in
    let right = contents-right l c.requires.file_value in
    sym (ap (λ t. pick t (is_range (range_of l i) (block_in l i)) true) (ne_eqb (edition l) 2 (λ e. c.if-edition-ne2.true (c.edition.ensures ∙ edition-read l right ∙ e))))

pub returns : goal.returns
unfolding has_true_range
returns c =
    let l = c.args.file.now in
    let i = c.args.i in
    let right = contents-right l c.requires.file_value in
    let is-second : edition l ≡ 2 = sym (c.edition.ensures ∙ edition-read l right) ∙ c.if-edition-ne2.false in
    ap₂ (λ (a : Range) (b : Range). both (eqb a.smallest b.smallest) (eqb a.largest b.largest)) (c.range_or-said.ensures ∙ range-read l right i c.requires.i_bound) c.requires.range_value
    ∙ sym (ap (λ t. pick t (is_range (range_of l i) (block_in l i)) true) (eq-eqb (edition l) 2 is-second))
