-- `search::lowest_bad` meets its contract: every opened block that the walk has passed is as asked.
-- Assumes nothing.
use Rattle.std.proofs.Common.{◌≡◌, ◌+◌, ◌<◌, true, false, length, sym, refl, ap, ◌∙◌, arith}
use Rattle.lists.specs.Pick.{pick}
use Rattle.lists.proofs.Search.{first_only}
use Rattle.contents.specs.Contents.{count}
use Rattle.bodywise.proofs.Told.{count-read}
use Rattle.bodywise.proofs.Walking.{file-first, file-none, file-number, file-next, file-passed}
use Rattle.search.specs.InnerBlocks.{asked}
use Rattle.search.specs.Search.{opens}
use Rattle.search.proofs.Walks.{file-opens, opened-asked}
use Rattle.search.proofs.lowest_bad.Goals as goal
use Rattle.search.proofs.lowest_bad.Goals.{then-opens+else-not-is_as_asked, else-opens}
use Rattle.search.proofs.lowest_bad.Goals.{After-next-next, After-opens, Joined-opens}

-- what was asked of the contents
opened-is : (c : After-opens) → c.opens.result ≡ opens c.args.file.now c.args.low c.args.high c.loop-body.body.number
opened-is c =
    c.opens.ensures ∙ file-opens c.args.file.now c.args.low c.args.high c.requires.contents_taken c.loop-body.body.number (omega (arith, c.loop-body.invariant.1))

-- the block is not opened, or is as asked
passed_over : (c : Joined-opens) → pick (opens c.args.file.now c.args.low c.args.high c.loop-body.body.number) (asked c.args.file.now c.args.ranges c.loop-body.body.number) true ≡ true
passed_over c =
    let args = c.args in
    let is = asked args.file.now args.ranges c.loop-body.body.number in
    let was : c.opens.result ≡ opens args.file.now args.low args.high c.loop-body.body.number =
    c.opens.ensures ∙ file-opens args.file.now args.low args.high c.requires.contents_taken c.loop-body.body.number (omega (arith, c.loop-body.invariant.1)) in
    elim c.if-opens.branch [
      | then-opens+else-not-is_as_asked w ↦
          ap (λ t. pick t is true) (sym was ∙ w.if-opens.true) ∙ sym w.is_as_asked.ensures.value ∙ w.if-not-is_as_asked.false
      | else-opens w ↦ ap (λ t. pick t is true) (sym was ∙ w.if-opens.false)
    ]

-- one body further
next-number : (c : After-next-next) → c.next-next.result.number ≡ c.loop-body.body.number + 1
next-number c =
    file-number c.args.file.now c.requires.contents_taken (omega arith) c.loop-body.invariant.0 (omega (arith, c.loop-body.invariant.1)) c.next-next.ensures

pub loop-body-init : goal.loop-body-init
loop-body-init c =
    let l = c.args.file.now in
    (file-first l c.requires.contents_taken c.first-body.ensures, c.count-n.ensures ∙ count-read l c.requires.contents_taken, file-none l c.requires.contents_taken c.first-body.ensures _, refl)

pub is_as_asked-requires : goal.is_as_asked-requires
is_as_asked-requires c =
    let l = c.args.file.now in
    let i = c.loop-body.body.number in
    let there : i < count l = omega (arith, c.loop-body.invariant.1) in record { contents_taken = c.requires.contents_taken; i_bound = there; at_value = c.loop-body.invariant.0.start; file_value = (λ e. ((c.requires.file_value e).0, opened-asked l c.args.low c.args.high false (c.requires.file_value e).1 i there (sym (opened-is (goal.at.is_as_asked-requires c).After-opens) ∙ c.if-opens.true))); block_len = c.loop-body.invariant.3 }

pub returns-then-not-is_as_asked : goal.returns-then-not-is_as_asked
returns-then-not-is_as_asked c =
    let args = c.args in
    let l = args.file.now in
    let i = c.loop-body.body.number in
    first_only (count l) i (λ k. pick (opens l args.low args.high k) (asked l args.ranges k) true) c.loop-body.invariant.0.within c.loop-body.invariant.2
    (λ _. ap (λ t. pick t (asked l args.ranges i) true) (sym (opened-is (goal.at.returns-then-not-is_as_asked c).After-opens) ∙ c.if-opens.true) ∙ sym c.is_as_asked.ensures.value ∙ c.if-not-is_as_asked.true)

pub loop-body-smaller : goal.loop-body-smaller
loop-body-smaller c = omega (arith, next-number (goal.at.loop-body-smaller c).After-next-next)

pub loop-body-preserved : goal.loop-body-preserved
loop-body-preserved c =
    let l = c.args.file.now in
    let walk = c.loop-body.invariant.0 in
    let more : c.loop-body.body.number < count l = omega (arith, c.loop-body.invariant.1) in (
      file-next l c.requires.contents_taken (omega arith) walk more c.next-next.ensures,
      c.loop-body.invariant.1,
      file-passed l c.requires.contents_taken (omega arith) walk more c.next-next.ensures c.loop-body.invariant.2 (passed_over (goal.at.loop-body-preserved c).Joined-opens),
      elim c.if-opens.branch [
        | then-opens+else-not-is_as_asked w ↦ ap length w.block-is ∙ w.is_as_asked.ensures.block_len_2
        | else-opens w ↦ ap length w.block-is ∙ c.loop-body.invariant.3
      ],
    )

pub returns : goal.returns
returns c =
    let args = c.args in
    let l = args.file.now in
    let all : c.loop-body.body.number ≡ count l = omega (arith, c.loop-body.invariant.0.within, c.loop-body.invariant.1) in
    c.loop-body.invariant.1
    ∙ first_only (count l) (count l) (λ k. pick (opens l args.low args.high k) (asked l args.ranges k) true) (omega arith)
    (λ k h. c.loop-body.invariant.2 k (omega arith)) (λ h. absurd (omega arith))
