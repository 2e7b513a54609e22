-- `decimal::lay` meets its contract.
-- Assumes nothing.
use Prim.Native.Nat.{◌≤◌, ◌<◌}
use native.Mathlib.Omega.{arith}
use lib.ListN.{length}
use borrow.Author.Tests.{le-leb, lt-leb}
use Rattle.decimal.specs.Decimal.{text_of}
use Rattle.decimal.proofs.lay.Goals as goal

pub returns-then-out-k : goal.returns-then-out-k
returns-then-out-k c =
    let short : length c.args.out.now < length (text_of c.args.n) = omega (arith, c.length_of-k.ensures) in
    record { value = simp (lt-leb _ _ short); out_after = simp (lt-leb _ _ short) }

pub returns : goal.returns
returns c =
    let fits : length (text_of c.args.n) ≤ length c.args.out.now = omega (arith, c.length_of-k.ensures) in
    record { value = simp (le-leb _ _ fits) c.length_of-k.ensures; out_after = simp (le-leb _ _ fits) c.put_digits.ensures }
