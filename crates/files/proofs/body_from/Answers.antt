-- `files::body_from` meets its contract: the part that is lent is the body, or there are too few bytes for it.
-- Assumes nothing.
use Rattle.std.proofs.Common.{◌≡◌, ◌+◌, ◌-◌, ◌<◌, [], length, take, drop, sym, ap, ◌∙◌, arith, le-leb}
use borrow.Author.Tests.{lt-leb}
use Rattle.lists.specs.Pick.{pick}
use Rattle.contents.specs.Contents.{entry_or}
use Rattle.files.specs.Froms.{body_from}
use Rattle.files.proofs.body_from.Goals as goal
use Rattle.files.proofs.body_from.Goals.{After-entry_or-e}

-- the length that the entry says
size_is : (c : After-entry_or-e) → c.entry_or-e.result.length ≡ (entry_or c.args.file.now c.args.i).length
size_is c = ap (λ e. e.length) c.entry_or-e.ensures

-- where the body does not all stand in the file, there is none
missing : (c : After-entry_or-e) → length c.args.file.now < c.args.at + c.entry_or-e.result.length → [] ≡ body_from c.args.file.now c.args.i c.args.at
unfolding body_from
missing c short =
    let l = c.args.file.now in
    let size = (entry_or l c.args.i).length in
    let at = c.args.at in
    sym (ap (λ t. pick t (take size (drop at l)) []) (lt-leb (at + size) (length l) (omega (arith, size_is c))))

pub returns-then-file-size : goal.returns-then-file-size
returns-then-file-size c = missing (goal.at.returns-then-file-size c).After-entry_or-e (omega arith)

pub returns-then-file-size-2 : goal.returns-then-file-size-2
returns-then-file-size-2 c = missing (goal.at.returns-then-file-size-2 c).After-entry_or-e (omega arith)

pub returns : goal.returns
unfolding body_from
returns c =
    let l = c.args.file.now in
    let at = c.args.at in
    let size = (entry_or l c.args.i).length in
    let there = le-leb (at + size) (length l) (omega (arith, size_is (goal.at.returns c).After-entry_or-e)) in
    let all : at + c.entry_or-e.result.length - at ≡ size = omega (arith, size_is (goal.at.returns c).After-entry_or-e) in
    ap (λ n. take n (drop at l)) all ∙ sym (ap (λ t. pick t (take size (drop at l)) []) there)
