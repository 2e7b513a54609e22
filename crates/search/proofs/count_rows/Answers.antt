-- `search::count_rows` meets its contract: the sum is of the blocks that the walk has passed.
-- Assumes nothing.
use Rattle.std.proofs.Common.{◌≡◌, ◌+◌, ◌*◌, ◌<◌, false, length, sym, ap, ◌∙◌, arith}
use Rattle.lists.proofs.Passing.{passing-none_yet, passing-length}
use Rattle.contents.specs.Contents.{count}
use Rattle.bodywise.proofs.Told.{whole, count-read}
use Rattle.bodywise.proofs.Walking.{file-first, file-zero, file-number, file-next}
use Rattle.search.specs.Search.{opens, listed}
use Rattle.search.proofs.Walks.{found_to, file-opens, opened-asked, found-length, found_shut, found_all}
use Rattle.search.proofs.count_rows.Goals as goal
use Rattle.search.proofs.count_rows.Goals.{After-next-next, After-opens, then-opens, else-opens}

-- what was asked of the contents
opened-is : (c : After-opens) → c.opens.result ≡ opens c.args.file.now c.args.low c.args.high c.loop-body.body.number
opened-is c =
    c.opens.ensures ∙ file-opens c.args.file.now c.args.low c.args.high c.requires.contents_taken c.loop-body.body.number (omega (arith, c.loop-body.invariant.1))

-- one body further
next-number : (c : After-next-next) → c.next-next.result.number ≡ c.loop-body.body.number + 1
next-number c =
    file-number c.args.file.now c.requires.contents_taken (omega arith) c.loop-body.invariant.0 (omega (arith, c.loop-body.invariant.1)) c.next-next.ensures

pub loop-body-init : goal.loop-body-init
loop-body-init c =
    let l = c.args.file.now in
    let low = c.args.low in
    let high = c.args.high in (
      file-first l c.requires.contents_taken c.first-body.ensures,
      c.count-n.ensures ∙ count-read l c.requires.contents_taken,
      sym (ap (λ i. length (found_to l low high i)) (file-zero l c.requires.contents_taken c.first-body.ensures) ∙ ap length (passing-none_yet 0 (listed l low high))),
    )

pub count_from-sum-requires : goal.count_from-sum-requires
count_from-sum-requires c =
    let l = c.args.file.now in
    let i = c.loop-body.body.number in
    let there : i < count l = omega (arith, c.loop-body.invariant.1) in record { contents_taken = c.requires.contents_taken; i_bound = there; at_value = c.loop-body.invariant.0.start; i_value = opened-asked l c.args.low c.args.high false c.requires.false_value i there (sym (opened-is (goal.at.count_from-sum-requires c).After-opens) ∙ c.if-opens.true) }

pub overflow_add-sum : goal.overflow_add-sum
overflow_add-sum c =
    let l = c.args.file.now in
    let low = c.args.low in
    let high = c.args.high in
    let i = c.loop-body.body.number in
    omega (
      arith,
      (whole l c.requires.contents_taken).few,
      c.loop-body.invariant.1,
      c.loop-body.invariant.2,
      c.count_from-sum.ensures,
      found-length l low high i (sym (opened-is (goal.at.overflow_add-sum c).After-opens) ∙ c.if-opens.true),
      passing-length 0 ((i + 1) * 1024) (listed l low high),
    )

pub loop-body-smaller : goal.loop-body-smaller
loop-body-smaller c = omega (arith, next-number (goal.at.loop-body-smaller c).After-next-next)

pub loop-body-preserved : goal.loop-body-preserved
loop-body-preserved c =
    let l = c.args.file.now in
    let low = c.args.low in
    let high = c.args.high in
    let i = c.loop-body.body.number in
    let further = ap (λ i. length (found_to l low high i)) (next-number (goal.at.loop-body-preserved c).After-next-next) in (
      file-next l c.requires.contents_taken (omega arith) c.loop-body.invariant.0 (omega (arith, c.loop-body.invariant.1)) c.next-next.ensures,
      c.loop-body.invariant.1,
      elim c.if-opens.branch [
        | then-opens w ↦
            omega (arith, w.sum-is, w.count_from-sum.ensures, c.loop-body.invariant.2, further, found-length l low high i (sym (opened-is (goal.at.loop-body-preserved c).After-opens) ∙ w.if-opens.true))
        | else-opens w ↦
            omega (arith, w.sum-is, c.loop-body.invariant.2, further, ap length (found_shut l low high i (sym (opened-is (goal.at.loop-body-preserved c).After-opens) ∙ w.if-opens.false)))
      ],
    )

pub returns : goal.returns
returns c =
    let args = c.args in
    let l = args.file.now in
    let all : c.loop-body.body.number ≡ count l = omega (arith, c.loop-body.invariant.0.within, c.loop-body.invariant.1) in
    c.loop-body.invariant.2 ∙ ap length (found_all l args.low args.high c.loop-body.body.number all)
