-- `files::body_start` meets its contract: it walks to body b.
-- Assumes nothing.
use Rattle.std.proofs.Common.{◌≡◌, ◌+◌, ap, ◌∙◌, arith}
use Rattle.contents.specs.Contents.{body_start}
use Rattle.bodywise.proofs.Walking.{file-first, file-zero, file-number, file-next}
use Rattle.files.proofs.body_start.Goals as goal
use Rattle.files.proofs.body_start.Goals.{After-next-next}

-- one body further
next-number : (c : After-next-next) → c.next-next.result.number ≡ c.loop-body.body.number + 1
next-number c =
    file-number c.args.file.now c.requires.contents_taken (omega arith) c.loop-body.invariant.1 (omega arith) c.next-next.ensures

pub loop-body-init : goal.loop-body-init
loop-body-init c =
    (omega (arith, file-zero c.args.file.now c.requires.contents_taken c.first-body.ensures), file-first c.args.file.now c.requires.contents_taken c.first-body.ensures)

pub loop-body-smaller : goal.loop-body-smaller
loop-body-smaller c = omega (arith, next-number (goal.at.loop-body-smaller c).After-next-next)

pub loop-body-preserved : goal.loop-body-preserved
loop-body-preserved c = (
  omega (arith, next-number (goal.at.loop-body-preserved c).After-next-next),
  file-next c.args.file.now c.requires.contents_taken (omega arith) c.loop-body.invariant.1 (omega arith) c.next-next.ensures,
)

pub returns : goal.returns
returns c =
    let all : c.loop-body.body.number ≡ c.args.b = omega (arith, c.loop-body.invariant.0) in
    c.loop-body.invariant.1.start ∙ ap (body_start c.args.file.now) all
