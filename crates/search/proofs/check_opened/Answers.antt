-- `search::check_opened` meets its contract: each refusal by what the walk found.
-- Assumes nothing.
use Rattle.std.proofs.Common.{◌≡◌, true, false, sym, ◌∙◌, ⊎_elim, arith}
use Rattle.lists.proofs.Tests.{false-true}
use Rattle.contents.specs.Contents.{edition, count}
use Rattle.bodywise.proofs.Told.{whole, count-read, edition-read}
use Rattle.search.specs.InnerBlocks.{bad_in}
use Rattle.search.proofs.Answers.{bad_le, opened_runs, opened_range, opened-done, first_edition}
use Rattle.search.proofs.check_opened.Goals as goal
use Rattle.search.proofs.check_opened.Goals.{After-edition, After-lowest_bad-bad, Else-bad-n}

-- the count that was read
count-is : (c : After-lowest_bad-bad) → c.count-n.result ≡ count c.args.file.now
count-is c = c.count-n.ensures ∙ count-read c.args.file.now c.requires

-- no opened block has a run index out of range, where the walk came to the end
runs-good : (c : Else-bad-n) → bad_in c.args.file.now c.args.low c.args.high false ≡ count c.args.file.now
runs-good c =
    let args = c.args in
    omega (arith, c.lowest_bad-bad.ensures, bad_le args.file.now args.low args.high false, (let it : c.count-n.result ≡ count c.args.file.now = c.count-n.ensures ∙ count-read c.args.file.now c.requires in it), c.if-bad-n.false)

-- the edition that was read
edition-is : (c : After-edition) → c.edition.result ≡ edition c.args.file.now
edition-is c = c.edition.ensures ∙ edition-read c.args.file.now c.requires

pub lowest_bad-bad-requires : goal.lowest_bad-bad-requires
lowest_bad-bad-requires c = record { contents_taken = c.requires; file_value = (λ e. absurd (false-true e)) }

pub returns-then-bad-n : goal.returns-then-bad-n
returns-then-bad-n c =
    let args = c.args in
    sym (opened_runs args.file.now args.low args.high _ c.lowest_bad-bad.ensures (λ e. absurd (omega (arith, count-is (goal.at.returns-then-bad-n c).After-lowest_bad-bad, c.if-bad-n.true))))

pub returns-then-edition-eq1 : goal.returns-then-edition-eq1
returns-then-edition-eq1 c =
    let args = c.args in
    let l = args.file.now in
    sym (opened-done l args.low args.high (runs-good (goal.at.returns-then-edition-eq1 c).Else-bad-n) (first_edition l args.low args.high (sym (edition-is (goal.at.returns-then-edition-eq1 c).After-edition) ∙ c.if-edition-eq1.true)))

pub lowest_bad-other-requires : goal.lowest_bad-other-requires
lowest_bad-other-requires c =
    let second = ⊎_elim (λ one. absurd (c.if-edition-eq1.false (edition-is (goal.at.lowest_bad-other-requires c).After-edition ∙ one))) (λ two. two) (whole c.args.file.now c.requires).first in
    record { contents_taken = c.requires; file_value = (λ _. (second, runs-good (goal.at.lowest_bad-other-requires c).Else-bad-n)) }

pub returns-then-other-n : goal.returns-then-other-n
returns-then-other-n c =
    let args = c.args in
    sym
    (opened_range args.file.now args.low args.high (runs-good (goal.at.returns-then-other-n c).Else-bad-n) _ c.lowest_bad-other.ensures
    (λ e. absurd (omega (arith, count-is (goal.at.returns-then-other-n c).After-lowest_bad-bad, c.if-other-n.true))))

pub returns : goal.returns
returns c =
    let args = c.args in
    let l = args.file.now in
    sym
    (opened-done l args.low args.high (runs-good (goal.at.returns c).Else-bad-n)
    (omega (arith, c.lowest_bad-other.ensures, bad_le l args.low args.high true, count-is (goal.at.returns c).After-lowest_bad-bad, c.if-other-n.false)))
