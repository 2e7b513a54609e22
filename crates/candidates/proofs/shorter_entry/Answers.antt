-- `candidates::shorter_entry` meets its contract: by the test.
-- Assumes nothing.
use Rattle.std.proofs.Common.{arith}
use Rattle.candidates.proofs.Choice.{entry_first, entry_second}
use Rattle.candidates.proofs.shorter_entry.Goals as goal

pub returns-then-a-b : goal.returns-then-a-b
returns-then-a-b c = entry_first _ _ (omega arith)

pub returns : goal.returns
returns c = entry_second c.args.a c.args.b (omega arith)
