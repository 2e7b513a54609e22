-- `decimal::first_other` meets its contract: the bytes passed are digits.
-- Assumes nothing.
use native.Mathlib.Omega.{arith}
use lib.ListN.{length}
use borrow.Author.Count.{below_more}
use Rattle.lists.proofs.Search.{first-beyond_only}
use Rattle.decimal.specs.Decimal.{digits_of}
use Rattle.decimal.proofs.Texts.{digits_length, digit_at}
use Rattle.decimal.proofs.first_other.Goals as goal

pub loop-i-init : goal.loop-i-init
loop-i-init c = λ k h. absurd (omega arith)

pub returns-then-digit-ge10 : goal.returns-then-digit-ge10
returns-then-digit-ge10 c =
    let loop = c.loop-i in
    let text = c.args.text.now in
    first-beyond_only 10 (digits_of text) loop.i (omega (arith, digits_length text)) loop.invariant
    (λ h. omega (arith, digit_at text loop.i (omega arith), c.digit.ensures))

pub loop-i-preserved : goal.loop-i-preserved
loop-i-preserved c =
    let loop = c.loop-i in
    let text = c.args.text.now in
    below_more _ _ loop.invariant (omega (arith, digit_at text loop.i (omega arith), c.digit.ensures))

pub returns : goal.returns
returns c =
    let loop = c.loop-i in
    let text = c.args.text.now in
    first-beyond_only 10 (digits_of text) (length text) (omega (arith, digits_length text)) (λ k h. loop.invariant k (omega arith))
    (λ h. absurd (omega (arith, digits_length text)))
