-- `search::count_block` meets its contract. The loop's invariant: k of the places passed lie between the bounds.
-- Assumes nothing.
use Rattle.std.proofs.Common.{◌≡◌, ◌+◌, length, sym, ap, ◌∙◌, arith}
use Rattle.lists.specs.Passing.{passing}
use Rattle.lists.proofs.Passing.{passing-none_yet, passing-length}
use Rattle.search.specs.Steps.{in_block}
use Rattle.search.proofs.Blocks.{in_block_lem}
use Rattle.search.proofs.Listing.{more_pass, same_pass}
use Rattle.search.proofs.count_block.Goals as goal
use Rattle.search.proofs.count_block.Goals.{After-lies, then-lies, else-lies}

-- the test that was made is that of place j
tested-is : (c : After-lies) → c.lies.result ≡ in_block c.args.block.now 0 c.args.low c.args.high (0 + c.loop-value.value-index)
tested-is c =
    let args = c.args in
    c.lies.ensures ∙ sym (in_block_lem args.block.now 0 args.low args.high c.loop-value.value-index)

pub loop-value-init : goal.loop-value-init
loop-value-init c = sym (ap length (passing-none_yet 0 _))

pub overflow_add-k : goal.overflow_add-k
overflow_add-k c =
    let args = c.args in
    omega (arith, c.loop-value.invariant, passing-length 0 c.loop-value.value-index (in_block args.block.now 0 args.low args.high))

pub loop-value-preserved : goal.loop-value-preserved
loop-value-preserved c =
    let args = c.args in
    let test = in_block args.block.now 0 args.low args.high in
    let j = c.loop-value.value-index in
    elim c.if-lies.branch [
      | then-lies w ↦
          omega (arith, w.k-is, c.loop-value.invariant, more_pass 0 test j (sym (tested-is (goal.at.loop-value-preserved c).After-lies) ∙ w.if-lies.true))
      | else-lies w ↦
          omega (arith, w.k-is, c.loop-value.invariant, ap length (same_pass 0 test j (sym (tested-is (goal.at.loop-value-preserved c).After-lies) ∙ w.if-lies.false)))
    ]

pub returns : goal.returns
returns c =
    let args = c.args in
    let all : c.loop-value.value-index ≡ length args.block.now = omega arith in
    c.loop-value.invariant ∙ ap (λ n. length (passing 0 n (in_block args.block.now 0 args.low args.high))) all
