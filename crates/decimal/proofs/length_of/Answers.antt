-- `decimal::length_of` meets its contract: the digits counted so far and those of the rest are all digits.
-- Assumes nothing.
use native.Mathlib.Omega.{arith}
use Rattle.decimal.proofs.Texts.{long-one, long_more}
use Rattle.decimal.proofs.length_of.Goals as goal

pub loop-rest-init : goal.loop-rest-init
loop-rest-init c = (omega arith, omega arith)

pub loop-rest-preserved : goal.loop-rest-preserved
loop-rest-preserved c = (omega (arith, long_more c.loop-rest.rest (omega arith)), omega arith)

pub returns : goal.returns
returns c = omega (arith, long-one c.loop-rest.rest (omega arith))
