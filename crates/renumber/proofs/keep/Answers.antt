-- `renumber::keep` meets its contract: three stores.
-- Assumes nothing.
use Prim.Native.Nat.{◌+◌, ◌*◌}
use native.Mathlib.Omega.{arith}
use lib.ListN.{set, length-set}
use Rattle.renumber.proofs.keep.Goals as goal

pub bounds-kept-at-2 : goal.bounds-kept-at-2
bounds-kept-at-2 c =
    let a = c.args in
    omega (arith, length-set a.kept.now (a.i * 3) a.range.smallest)

pub bounds-kept-at-3 : goal.bounds-kept-at-3
bounds-kept-at-3 c =
    let a = c.args in
    let first = set a.kept.now (a.i * 3) a.range.smallest in
    omega (arith, length-set a.kept.now (a.i * 3) a.range.smallest, length-set first (a.i * 3 + 1) a.range.largest)
