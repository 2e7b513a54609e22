-- `little::fill_words` meets its contract. The loop's invariant: the first i numbers are read.
-- Assumes nothing.
use mathlib.Core.Path.{sym}
use Prim.Native.Nat.{zero-le}
use native.Mathlib.Nat.{zero-add}
use native.Mathlib.Omega.{arith}
use Rattle.lists.proofs.Tabs.{written_none, written_next, written-length, written_all}
use Rattle.little.specs.Little.{numbers_of}
use Rattle.little.proofs.fill_words.Goals as goal

pub loop-i-init : goal.loop-i-init
loop-i-init c = written_none zero-le

pub overflow_mul-i : goal.overflow_mul-i
overflow_mul-i c = omega (arith, written-length c.loop-i.invariant)

pub word_at-requires : goal.word_at-requires
word_at-requires c = omega (arith, written-length c.loop-i.invariant)

pub loop-i-smaller : goal.loop-i-smaller
loop-i-smaller c = omega (arith, written-length c.loop-i.invariant)

pub loop-i-preserved : goal.loop-i-preserved
loop-i-preserved c =
    let inv = c.loop-i.invariant in
    written_next inv _ _ (omega (arith, written-length inv)) (sym (zero-add _)) c.word_at.ensures

pub returns : goal.returns
unfolding numbers_of
returns c =
    written_all c.loop-i.invariant _ (omega (arith, written-length c.loop-i.invariant)) (omega arith)
