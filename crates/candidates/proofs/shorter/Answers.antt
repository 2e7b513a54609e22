-- `candidates::shorter` meets its contract: by the test which of the two is shorter.
-- Assumes nothing.
use Rattle.std.proofs.Common.{sym, arith, length-take-le}
use Rattle.candidates.proofs.Choice.{part-first, part_second}
use Rattle.candidates.proofs.shorter.Goals as goal

pub slice_bounds-result-end : goal.slice_bounds-result-end
slice_bounds-result-end c = sym (length-take-le _ _ (omega arith))

pub returns-then-n-k : goal.returns-then-n-k
returns-then-n-k c =
    let args = c.args in
    part-first args.a.now args.b.now args.n args.k (omega arith) (omega arith) (omega arith)

pub slice_bounds-result-end-2 : goal.slice_bounds-result-end-2
slice_bounds-result-end-2 c = sym (length-take-le _ _ (omega arith))

pub returns : goal.returns
returns c =
    let args = c.args in
    part_second args.a.now args.b.now args.n args.k (omega arith) (omega arith) (omega arith)
