-- `contents::has_right_entry` meets its contract: by the test that the entry is there, and then by those of the entry.
-- Assumes nothing.
use mathlib.Core.Path.{◌≡◌, sym, ap, ◌∙◌}
use Prim.Native.Nat.{suc, ◌+◌, ◌≤◌}
use native.Mathlib.Numerals.{add-one}
use native.Mathlib.Omega.{arith}
use lib.ListN.{length}
use Rattle.contents.specs.Contents.{edition, contents_size}
use Rattle.contents.proofs.Entries.{right_there, right_missing, entry_found, entry_lost, edition-found}
use Rattle.contents.proofs.Sizes.{size-entry}
use Rattle.contents.proofs.has_right_entry.Goals as goal
use Rattle.contents.proofs.has_right_entry.Goals.{Then-has_entry}

-- where the entry is there, the edition is the file's, and the entry ends within it
found : (c : Then-has_entry) → c.edition-edition.result ≡ edition c.args.front.now
found c =
    edition-found c.args.front.now c.args.i c.edition-edition.ensures c.has_entry.ensures c.if-has_entry.true

there : (c : Then-has_entry) → contents_size (edition c.args.front.now) (suc c.args.i)
    ≤ length c.args.front.now
there c =
    entry_found c.args.front.now c.args.i c.edition-edition.ensures c.has_entry.ensures c.if-has_entry.true

ends : (c : Then-has_entry) → contents_size c.edition-edition.result (c.args.i + 1)
    ≤ length c.args.front.now
ends c =
    let i = c.args.i in
    omega (arith, ap (λ e. contents_size e (i + 1)) (found c), ap (contents_size (edition c.args.front.now)) (add-one i), there c)

pub contents_size-requires : goal.contents_size-requires
contents_size-requires c =
    let i = c.args.i in
    omega (arith, size-entry c.edition-edition.result i, ends (goal.at.contents_size-requires c).Then-has_entry)

pub is_right-requires : goal.is_right-requires
is_right-requires c =
    record { edition_value = found (goal.at.is_right-requires c).Then-has_entry; at_value = c.contents_size.ensures; i_in_bounds = ends (goal.at.is_right-requires c).Then-has_entry }

pub returns-then-has_entry : goal.returns-then-has_entry
returns-then-has_entry c =
    c.is_right.ensures ∙ sym (right_there c.args.front.now c.args.i (there (goal.at.returns-then-has_entry c).Then-has_entry))

pub returns : goal.returns
returns c =
    sym (right_missing c.args.front.now c.args.i
    (entry_lost c.args.front.now c.args.i c.edition-edition.ensures c.has_entry.ensures c.if-has_entry.false))
