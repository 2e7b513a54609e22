-- `files::holds` meets its contract: two tests as one.
-- Assumes nothing.
use Rattle.std.proofs.Common.{◌+◌, ◌-◌, arith}
use Rattle.little.proofs.Little.{same-leb}
use Rattle.files.proofs.holds.Goals as goal

pub returns-then-size-n : goal.returns-then-size-n
returns-then-size-n c =
    let args = c.args in
    same-leb args.at (args.n - args.size) (args.at + args.size) args.n (λ h. omega arith) (λ h. omega arith)

pub returns-else-size-n : goal.returns-else-size-n
returns-else-size-n c =
    let args = c.args in
    same-leb args.size args.n (args.at + args.size) args.n (λ h. omega arith) (λ h. omega arith)
