-- `files::check_ranges` meets its contract: an edition that has no ranges passes, and in edition 2 the search decides.
-- Assumes nothing.
use Rattle.std.specs.Prelude.{Ok}
use Rattle.std.proofs.Common.{◌≡◌, length, sym, ◌∙◌}
use Rattle.contents.specs.Answers.{file_answer}
use Rattle.contents.specs.Contents.{contents_tests}
use Rattle.bodywise.proofs.Told.{count-read, edition-read}
use Rattle.files.proofs.Ranges.{contents-right, other_ranges, ranges_done, range_at}
use Rattle.files.proofs.check_ranges.Goals as goal
use Rattle.files.proofs.check_ranges.Goals.{Start}

-- the contents are right
right : (c : Start) → file_answer (contents_tests c.args.file.now (length c.args.file.now)) ≡ Ok tt
right c = contents-right c.args.file.now c.requires

pub returns-then-edition-ne2 : goal.returns-then-edition-ne2
returns-then-edition-ne2 c =
    let l = c.args.file.now in
    sym (ranges_done l (other_ranges l (λ e. c.if-edition-ne2.true (c.edition.ensures ∙ e)) (right (goal.at.returns-then-edition-ne2 c).Start)))

pub false_range-bad-requires : goal.false_range-bad-requires
false_range-bad-requires c =
    record { file_value = c.requires; file_value_2 = sym (c.edition.ensures ∙ edition-read c.args.file.now (right (goal.at.false_range-bad-requires c).Start)) ∙ c.if-edition-ne2.false }

pub returns-then-bad-n : goal.returns-then-bad-n
returns-then-bad-n c =
    let l = c.args.file.now in
    sym (ranges_done l (sym c.false_range-bad.ensures ∙ c.if-bad-n.true ∙ c.count-n.ensures ∙ count-read l (right (goal.at.returns-then-bad-n c).Start)))

pub returns : goal.returns
returns c =
    let l = c.args.file.now in
    sym (range_at l _ c.false_range-bad.ensures (λ e. c.if-bad-n.false (e ∙ sym (c.count-n.ensures ∙ count-read l (right (goal.at.returns c).Start)))))
