-- `search::count_opened` meets its contract. The loop's invariant: k of the blocks passed are opened.
-- Assumes nothing.
use Rattle.std.proofs.Common.{◌≡◌, ◌+◌, length, sym, ap, ◌∙◌, zero-add, arith}
use Rattle.lists.specs.Passing.{passing}
use Rattle.lists.proofs.Passing.{passing-none_yet, passing-length}
use Rattle.contents.specs.Contents.{count}
use Rattle.bodywise.proofs.Told.{count-read}
use Rattle.search.specs.Search.{opens, opened}
use Rattle.search.proofs.Listing.{more_pass, same_pass}
use Rattle.search.proofs.Walks.{file-opens}
use Rattle.search.proofs.count_opened.Goals as goal
use Rattle.search.proofs.count_opened.Goals.{After-opens, then-opens, else-opens}

-- what was asked of block i
tested-is : (c : After-opens) → c.opens.result ≡ opens c.args.file.now c.args.low c.args.high (0 + c.loop-i.i)
tested-is c =
    let l = c.args.file.now in
    let low = c.args.low in
    let high = c.args.high in
    c.opens.ensures
    ∙ file-opens l low high c.requires c.loop-i.i (omega (arith, c.loop-i.invariant.0))
    ∙ sym (ap (opens l low high) (zero-add c.loop-i.i))

pub loop-i-init : goal.loop-i-init
loop-i-init c =
    (c.count-n.ensures ∙ count-read c.args.file.now c.requires, sym (ap length (passing-none_yet 0 _)))

pub overflow_add-k : goal.overflow_add-k
overflow_add-k c =
    let args = c.args in
    omega (arith, c.loop-i.invariant.1, passing-length 0 c.loop-i.i (opens args.file.now args.low args.high))

pub loop-i-preserved : goal.loop-i-preserved
loop-i-preserved c =
    let args = c.args in
    let test = opens args.file.now args.low args.high in
    let i = c.loop-i.i in (
      c.loop-i.invariant.0,
      elim c.if-opens.branch [
        | then-opens w ↦
            omega (arith, w.k-is, c.loop-i.invariant.1, more_pass 0 test i (sym (tested-is (goal.at.loop-i-preserved c).After-opens) ∙ w.if-opens.true))
        | else-opens w ↦
            omega (arith, w.k-is, c.loop-i.invariant.1, ap length (same_pass 0 test i (sym (tested-is (goal.at.loop-i-preserved c).After-opens) ∙ w.if-opens.false)))
      ],
    )

pub returns : goal.returns
unfolding opened
returns c =
    let args = c.args in
    let l = args.file.now in
    let all : c.loop-i.i ≡ count l = omega (arith, c.loop-i.invariant.0) in
    c.loop-i.invariant.1 ∙ ap (λ n. length (passing 0 n (opens l args.low args.high))) all
