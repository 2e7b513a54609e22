-- `bits::bytes_of` meets its contract. The loop's invariant: the bytes of the first k numbers are written.
-- Assumes nothing.
use mathlib.Core.Path.{refl}
use native.Mathlib.Omega.{arith}
use Rattle.lists.proofs.Tabs.{written_none, written-length, written_all}
use Rattle.bits.specs.InnerSteps.{bytes_of}
use Rattle.bits.proofs.Gathers.{word_more}
use Rattle.bits.proofs.bytes_of.Goals as goal

pub loop-k-init : goal.loop-k-init
loop-k-init c = written_none (omega arith)

pub slice_bounds-write_word-end : goal.slice_bounds-write_word-end
slice_bounds-write_word-end c = omega (arith, written-length c.loop-k.invariant)

pub write_word-requires : goal.write_word-requires
write_word-requires c = omega (arith, written-length c.loop-k.invariant)

pub loop-k-preserved : goal.loop-k-preserved
loop-k-preserved c =
    word_more c.args.block _ refl c.loop-k-test.true c.loop-k.invariant c.write_word.ensures

pub returns : goal.returns
unfolding bytes_of
returns c = written_all c.loop-k.invariant 128 (omega arith) refl
