-- `little::lay_words` meets its contract. The loop's invariant: the bytes of the first i numbers are laid down.
-- Assumes nothing.
use native.Mathlib.Omega.{arith}
use Rattle.little.proofs.Bytes.{laid_none, laid_next, laid_length, laid_all}
use Rattle.little.proofs.lay_words.Goals as goal

pub loop-i-init : goal.loop-i-init
loop-i-init c = laid_none (omega arith)

pub put_word_at-requires : goal.put_word_at-requires
put_word_at-requires c = omega (arith, laid_length c.loop-i.invariant)

pub loop-i-preserved : goal.loop-i-preserved
loop-i-preserved c = laid_next c.loop-i.invariant c.loop-i-test.true c.put_word_at.ensures

pub returns : goal.returns
returns c = laid_all c.loop-i.invariant (omega arith)
