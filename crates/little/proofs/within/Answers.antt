-- `little::within` meets its contract: two tests as one.
-- Assumes nothing.
use Prim.Native.Nat.{◌+◌, ◌-◌}
use native.Mathlib.Omega.{arith}
use Rattle.little.proofs.Little.{same-leb}
use Rattle.little.proofs.within.Goals as goal

pub returns-then-k-n : goal.returns-then-k-n
returns-then-k-n c =
    let args = c.args in
    same-leb args.at (args.n - args.k) (args.at + args.k) args.n (λ h. omega arith) (λ h. omega arith)

pub returns-else-k-n : goal.returns-else-k-n
returns-else-k-n c =
    let args = c.args in
    same-leb args.k args.n (args.at + args.k) args.n (λ h. omega arith) (λ h. omega arith)
