-- `files::false_range` meets its contract: every block that the walk has passed has its true range.
-- Assumes nothing.
use Rattle.std.specs.Prelude.{Ok}
use Rattle.std.proofs.Common.{◌≡◌, ◌+◌, ◌<◌, length, sym, refl, ◌∙◌, arith, rules}
use Rattle.lists.proofs.Search.{first_only}
use Rattle.contents.specs.Answers.{file_answer}
use Rattle.contents.specs.Contents.{count, contents_tests}
use Rattle.files.specs.Files.{has_true_range, bad_range}
use Rattle.bodywise.proofs.Told.{count-read}
use Rattle.bodywise.proofs.Walking.{file-first, file-none, file-number, file-next, file-passed}
use Rattle.files.proofs.Froms.{true_in_is}
use Rattle.files.proofs.Ranges.{contents-right, runs-good}
use Rattle.files.proofs.false_range.Goals as goal
use Rattle.files.proofs.false_range.Goals.{After-is_true_in, After-next-next, Start}

-- the contents are right
right : (c : Start) → file_answer (contents_tests c.args.file.now (length c.args.file.now)) ≡ Ok tt
right c = contents-right c.args.file.now c.requires.file_value

-- what was asked of the body of the walk is asked of its block
tested-is : (c : After-is_true_in) → c.is_true_in.result ≡ has_true_range c.args.file.now c.loop-body.body.number
tested-is c =
    let l = c.args.file.now in
    let body = c.loop-body.body in
    let there : body.number < count l = omega (arith, c.loop-body.invariant.1) in
    c.is_true_in.ensures.value
    ∙ true_in_is l (let it : file_answer (contents_tests c.args.file.now (length c.args.file.now)) ≡ Ok tt = contents-right c.args.file.now c.requires.file_value in it) body.number there body.at c.loop-body.invariant.0.start c.loop-body.block c.loop-body.invariant.3 c.requires.file_value_2 (runs-good l c.requires.file_value body.number there)

-- one body further
next-number : (c : After-next-next) → c.next-next.result.number ≡ c.loop-body.body.number + 1
next-number c =
    file-number c.args.file.now (let it : file_answer (contents_tests c.args.file.now (length c.args.file.now)) ≡ Ok tt = contents-right c.args.file.now c.requires.file_value in it) (omega arith) c.loop-body.invariant.0 (omega (arith, c.loop-body.invariant.1)) c.next-next.ensures

pub loop-body-init : goal.loop-body-init
loop-body-init c =
    let l = c.args.file.now in
    (file-first l (right (goal.at.loop-body-init c).Start) c.first-body.ensures, c.count-n.ensures ∙ count-read l (right (goal.at.loop-body-init c).Start), file-none l (right (goal.at.loop-body-init c).Start) c.first-body.ensures _, refl)

pub slice_bounds-is_true_in-end : goal.slice_bounds-is_true_in-end
slice_bounds-is_true_in-end c = sym c.loop-body.invariant.3

pub returns-then-not-is_true_in : goal.returns-then-not-is_true_in
unfolding bad_range
returns-then-not-is_true_in c =
    let l = c.args.file.now in
    first_only (count l) c.loop-body.body.number (has_true_range l) c.loop-body.invariant.0.within c.loop-body.invariant.2
    (λ _. sym (tested-is (goal.at.returns-then-not-is_true_in c).After-is_true_in) ∙ c.if-not-is_true_in.true)

pub loop-body-smaller : goal.loop-body-smaller
loop-body-smaller c = omega (arith, next-number (goal.at.loop-body-smaller c).After-next-next)

pub loop-body-preserved : goal.loop-body-preserved
loop-body-preserved c =
    let l = c.args.file.now in
    let walk = c.loop-body.invariant.0 in
    let more : c.loop-body.body.number < count l = omega (arith, c.loop-body.invariant.1) in (
      file-next l (right (goal.at.loop-body-preserved c).Start) (omega arith) walk more c.next-next.ensures,
      c.loop-body.invariant.1,
      file-passed l (right (goal.at.loop-body-preserved c).Start) (omega arith) walk more c.next-next.ensures c.loop-body.invariant.2 (sym (tested-is (goal.at.loop-body-preserved c).After-is_true_in) ∙ c.if-not-is_true_in.false),
      search rules,
    )

pub returns : goal.returns
unfolding bad_range
returns c =
    let l = c.args.file.now in
    let all : c.loop-body.body.number ≡ count l = omega (arith, c.loop-body.invariant.0.within, c.loop-body.invariant.1) in
    c.loop-body.invariant.1
    ∙ first_only (count l) (count l) (has_true_range l) (omega arith) (λ k h. c.loop-body.invariant.2 k (omega arith)) (λ h. absurd (omega arith))
