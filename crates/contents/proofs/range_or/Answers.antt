-- `contents::range_or` meets its contract: by the test that the entry is there.
-- Assumes nothing.
use mathlib.Core.Path.{sym, ap, ◌∙◌}
use Prim.Native.Nat.{◌+◌}
use native.Mathlib.Numerals.{add-one}
use native.Mathlib.Omega.{arith}
use Rattle.contents.specs.Contents.{edition, contents_size}
use Rattle.contents.proofs.Entries.{range_there, range_missing, entry_found, entry_lost, edition-found}
use Rattle.contents.proofs.range_or.Goals as goal

pub range_of-requires : goal.range_of-requires
range_of-requires c =
    let l = c.args.front.now in
    let i = c.args.i in
    let same = edition-found l i c.edition-edition.ensures c.has_entry.ensures c.if-has_entry.true in
    let there = entry_found l i c.edition-edition.ensures c.has_entry.ensures c.if-has_entry.true in
    record { edition_value = same; i_in_bounds = omega (arith, there, ap (λ e. contents_size e (i + 1)) same, ap (contents_size (edition l)) (add-one i)) }

pub returns-then-has_entry : goal.returns-then-has_entry
returns-then-has_entry c =
    let l = c.args.front.now in
    let i = c.args.i in
    c.range_of.ensures
    ∙ sym (range_there l i (entry_found l i c.edition-edition.ensures c.has_entry.ensures c.if-has_entry.true))

pub returns : goal.returns
returns c =
    let l = c.args.front.now in
    let i = c.args.i in
    c.any_range.ensures
    ∙ sym (range_missing l i (entry_lost l i c.edition-edition.ensures c.has_entry.ensures c.if-has_entry.false))
