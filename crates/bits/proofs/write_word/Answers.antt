-- `bits::write_word` meets its contract. The loop's invariant: the first i bytes are written.
-- Assumes nothing.
use mathlib.Core.Path.{◌≡◌, refl, ap}
use Prim.Native.Nat.{◌/◌, ◌%◌, ◌^◌}
use native.Mathlib.Nat.{mul_comm}
use native.Mathlib.Omega.{arith}
use Rattle.lists.specs.Numbers.{digit}
use Rattle.lists.proofs.Tabs.{written_none, written_next, written-length}
use Rattle.bits.proofs.write_word.Goals as goal

pub loop-i-init : goal.loop-i-init
loop-i-init c = written_none (omega arith)

pub bounds-bytes-at : goal.bounds-bytes-at
bounds-bytes-at c = omega (arith, written-length c.loop-i.invariant)

pub loop-i-preserved : goal.loop-i-preserved
unfolding digit
loop-i-preserved c =
    written_next c.loop-i.invariant _ _ (omega arith) refl (ap (λ k. c.args.word / 2 ^ k % 2 ^ 8) (mul_comm c.loop-i.i 8))

pub returns : goal.returns
returns c =
    let e : c.loop-i.i ≡ 8 = omega arith in
    rw e at c.loop-i.invariant.is
