-- `listing::put_lines` meets its contract: the lines of the first k places are laid.
-- Assumes nothing.
use native.Mathlib.Omega.{arith}
use Rattle.listing.proofs.Lines.{laid_none, change_most}
use Rattle.listing.proofs.Listed.{differ_few, change_next, laid_all, laid_length}
use borrow.Author.Rules.{rules}
use Rattle.listing.proofs.put_lines.Goals as goal

pub loop-k-init : goal.loop-k-init
loop-k-init c = laid_none _ _

pub put_change-next-requires : goal.put_change-next-requires
put_change-next-requires c =
    let loop = c.loop-k in
    omega (arith, loop.invariant.few, differ_few c.args.left.now c.args.right.now, laid_length loop.invariant (omega (arith, differ_few c.args.left.now c.args.right.now)))

pub loop-k-preserved : goal.loop-k-preserved
loop-k-preserved c =
    let args = c.args in
    let change = c.change_at in
    let line = c.put_change-next in
    change_next args.i args.left.now args.right.now args.places.now c.loop-k.k c.loop-k.invariant (omega arith) (search rules)
    change.ensures (record { ends = line.ensures.value; is = line.ensures.out_after }) (change_most change.result (search rules) (search rules) (search rules)) (omega (arith, differ_few args.left.now args.right.now))

pub returns : goal.returns
returns c =
    let args = c.args in
    let all = laid_all args.i args.left.now args.right.now c.loop-k.invariant (omega arith) in
    record { value = all.0; out_after = all.1 }
