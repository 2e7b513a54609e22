-- `contents::put_head` meets its contract: two numbers, one behind the other, are the first four bytes.
-- Assumes nothing.
use mathlib.Core.Path.{sym, ap, ◌∙◌}
use native.Mathlib.Omega.{arith}
use Rattle.little.specs.Little.{put_leaves}
use Rattle.contents.proofs.Bytes.{head_put, head_missing}
use Rattle.contents.proofs.put_head.Goals as goal

pub returns-then-bytes-ge4 : goal.returns-then-bytes-ge4
returns-then-bytes-ge4 c =
    let args = c.args in
    c.put_pair-then-bytes-ge4.ensures
    ∙ ap (put_leaves 2 args.n 2) c.put_pair.ensures
    ∙ head_put args.n args.bytes.now (omega arith)

pub returns-else-bytes-ge4 : goal.returns-else-bytes-ge4
returns-else-bytes-ge4 c = sym (head_missing _ _ (omega arith))
