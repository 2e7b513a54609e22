-- `little::read_pairs` meets its contract: by the test that there are enough bytes.
-- Assumes nothing.
use mathlib.Core.Path.{sym, ◌∙◌}
use native.Mathlib.Omega.{arith}
use Rattle.little.proofs.Little.{read_all, read_none}
use Rattle.little.proofs.read_pairs.Goals as goal

pub returns-then-pairs-bytes : goal.returns-then-pairs-bytes
returns-then-pairs-bytes c =
    let args = c.args in
    c.fill_pairs.ensures ∙ sym (read_all 2 args.bytes.now args.pairs.now (omega arith))

pub returns-else-pairs-bytes : goal.returns-else-pairs-bytes
returns-else-pairs-bytes c =
    let args = c.args in
    sym (read_none 2 args.bytes.now args.pairs.now (omega arith))
