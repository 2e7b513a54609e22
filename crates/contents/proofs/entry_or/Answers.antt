-- `contents::entry_or` meets its contract: by the test that the entry is there.
-- Assumes nothing.
use mathlib.Core.Path.{◌≡◌, sym, ap, ◌∙◌}
use Prim.Native.Nat.{◌+◌, ◌≤◌}
use native.Mathlib.Numerals.{add-one}
use native.Mathlib.Omega.{arith}
use lib.ListN.{length}
use Rattle.contents.specs.Contents.{edition, contents_size, entry_at, entry_of}
use Rattle.contents.proofs.Entries.{entry_there, entry_missing, entry_found, entry_lost, edition-found}
use Rattle.contents.proofs.Sizes.{size-entry}
use Rattle.contents.proofs.entry_or.Goals as goal
use Rattle.contents.proofs.entry_or.Goals.{Then-has_entry}

-- where the entry is there, the edition is the file's, and the entry ends within it
found : (c : Then-has_entry) → c.edition-edition.result ≡ edition c.args.front.now
found c =
    edition-found c.args.front.now c.args.i c.edition-edition.ensures c.has_entry.ensures c.if-has_entry.true

ends : (c : Then-has_entry) → contents_size (edition c.args.front.now) c.args.i + 16
    ≤ length c.args.front.now
ends c =
    let l = c.args.front.now in
    let i = c.args.i in
    let there = entry_found l i c.edition-edition.ensures c.has_entry.ensures c.if-has_entry.true in
    omega (arith, there, size-entry (edition l) i, ap (contents_size (edition l)) (add-one i))

pub contents_size-requires : goal.contents_size-requires
contents_size-requires c =
    let i = c.args.i in
    omega (arith, ap (λ e. contents_size e i) (found (goal.at.contents_size-requires c).Then-has_entry), ends (goal.at.contents_size-requires c).Then-has_entry)

pub entry_at-requires : goal.entry_at-requires
entry_at-requires c =
    let i = c.args.i in
    omega (arith, c.contents_size.ensures, ap (λ e. contents_size e i) (found (goal.at.entry_at-requires c).Then-has_entry), ends (goal.at.entry_at-requires c).Then-has_entry)

pub returns-then-has_entry : goal.returns-then-has_entry
unfolding entry_of
returns-then-has_entry c =
    let l = c.args.front.now in
    let i = c.args.i in
    c.entry_at.ensures
    ∙ ap (entry_at l) (c.contents_size.ensures ∙ ap (λ e. contents_size e i) (found (goal.at.returns-then-has_entry c).Then-has_entry))
    ∙ sym (entry_there l i (entry_found l i c.edition-edition.ensures c.has_entry.ensures c.if-has_entry.true))

pub returns : goal.returns
returns c =
    let l = c.args.front.now in
    let i = c.args.i in
    c.no_entry.ensures
    ∙ sym (entry_missing l i (entry_lost l i c.edition-edition.ensures c.has_entry.ensures c.if-has_entry.false))
