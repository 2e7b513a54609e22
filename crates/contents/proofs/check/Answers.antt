-- `contents::check` meets its contract: each refusal by its test, and the rest is the check of the entries.
-- Assumes nothing.
use mathlib.Core.Logic.{inl, inr}
use mathlib.Core.Path.{◌≡◌, sym, ap₂, subst, ◌∙◌}
use native.Mathlib.Omega.{arith}
use Rattle.little.proofs.Little.{little-within}
use Rattle.contents.specs.Contents.{edition, count, contents_size}
use Rattle.contents.proofs.Checks.{Known, short_head, other_edition, many_blocks, short_entries, entries_there}
use Rattle.contents.proofs.Entries.{edition_there}
use Rattle.contents.proofs.Sizes.{size-most}
use Rattle.contents.proofs.check.Goals as goal
use Rattle.contents.proofs.check.Goals.{After-contents_size, After-count-n, After-edition-edition, Joined-edition-ne1, then-edition-ne1+else-edition-ne2, else-edition-ne1}

-- the edition that was read is the file's
edition-is : (c : After-edition-edition) → c.edition-edition.result ≡ edition c.args.front.now
edition-is c = c.edition-edition.ensures ∙ edition_there c.args.front.now (omega arith)

-- the count that was read
count-is : (c : After-count-n) → c.count-n.result ≡ count c.args.front.now
count-is c = c.count-n.ensures ∙ little-within c.args.front.now 2 2 (omega arith)

-- and it is one that is known
known : (c : Joined-edition-ne1) → Known (edition c.args.front.now)
known c = subst Known (let it : c.edition-edition.result ≡ edition c.args.front.now = c.edition-edition.ensures ∙ edition_there c.args.front.now (omega arith) in it) (elim c.if-edition-ne1.branch [ then-edition-ne1+else-edition-ne2 w ↦ inr w.if-edition-ne2.false | else-edition-ne1 w ↦ inl w.if-edition-ne1.false ])

-- the contents that the entries need
size_is : (c : After-contents_size) → c.contents_size.result
    ≡ contents_size (edition c.args.front.now) (count c.args.front.now)
size_is c = c.contents_size.ensures ∙ ap₂ contents_size (let it : c.edition-edition.result ≡ edition c.args.front.now = c.edition-edition.ensures ∙ edition_there c.args.front.now (omega arith) in it) (let it : c.count-n.result ≡ count c.args.front.now = c.count-n.ensures ∙ little-within c.args.front.now 2 2 (omega arith) in it)

pub returns-then-front-lt4 : goal.returns-then-front-lt4
returns-then-front-lt4 c = sym (short_head c.args.front.now _ c.if-front-lt4.true)

pub returns-then-edition-ne2 : goal.returns-then-edition-ne2
returns-then-edition-ne2 c =
    let l = c.args.front.now in
    sym (other_edition l _ (omega arith) (λ e. c.if-edition-ne1.true (edition-is (goal.at.returns-then-edition-ne2 c).After-edition-edition ∙ e)) (λ e. c.if-edition-ne2.true (edition-is (goal.at.returns-then-edition-ne2 c).After-edition-edition ∙ e)))

pub returns-then-n-gt256 : goal.returns-then-n-gt256
returns-then-n-gt256 c =
    let l = c.args.front.now in
    sym (many_blocks l _ (omega arith) (omega (arith, count-is (goal.at.returns-then-n-gt256 c).After-count-n, c.if-n-gt256.true)))

pub contents_size-requires : goal.contents_size-requires
contents_size-requires c = omega (arith, size-most c.edition-edition.result c.count-n.result)

pub returns-then-front-contents_size : goal.returns-then-front-contents_size
returns-then-front-contents_size c =
    let l = c.args.front.now in
    sym (short_entries l _ (omega arith) (known (goal.at.returns-then-front-contents_size c).Joined-edition-ne1) (omega (arith, count-is (goal.at.returns-then-front-contents_size c).After-count-n, c.if-n-gt256.false)) (omega (arith, size_is (goal.at.returns-then-front-contents_size c).After-contents_size, c.if-front-contents_size.true)))

pub check_entries-requires : goal.check_entries-requires
check_entries-requires c =
    record { edition_value = edition-is (goal.at.check_entries-requires c).After-edition-edition; n_value = count-is (goal.at.check_entries-requires c).After-count-n; n_bound = omega arith; n_in_bounds = omega (arith, c.contents_size.ensures, c.if-front-contents_size.false) }

pub returns : goal.returns
returns c =
    let l = c.args.front.now in
    c.check_entries.ensures
    ∙ sym (entries_there l _ (omega arith) (known (goal.at.returns c).Joined-edition-ne1) (omega (arith, count-is (goal.at.returns c).After-count-n, c.if-n-gt256.false)) (omega (arith, size_is (goal.at.returns c).After-contents_size, c.if-front-contents_size.false)))
