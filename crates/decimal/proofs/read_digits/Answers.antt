-- `decimal::read_digits` meets its contract: the number so far, with the digits to come behind it, is the number of
-- all.
-- Assumes nothing.
use Rattle.std.specs.Prelude.{Ok}
use mathlib.Core.Path.{◌≡◌, refl, sym, ap, ◌∙◌}
use Prim.Native.Nat.{◌+◌, ◌*◌}
use native.Mathlib.Omega.{arith}
use lib.ListN.{drop}
use borrow.Author.Tests.{lt-ltb, le-ltb}
use Rattle.decimal.specs.Decimal.{digits_of, value_of}
use Rattle.decimal.proofs.Digits.{value_more}
use Rattle.decimal.proofs.Texts.{value-next, value-end}
use Rattle.decimal.proofs.read_digits.Goals as goal

pub loop-i-init : goal.loop-i-init
loop-i-init c = (omega arith, refl)

pub returns-then-d-v : goal.returns-then-d-v
returns-then-d-v c =
    let loop = c.loop-i in
    let text = c.args.text.now in
    let next = value-next text loop.v loop.i c.digit-d.result (omega arith) c.digit-d.ensures in
    let more = value_more (loop.v * 10 + c.digit-d.result) (drop (loop.i + 1) (digits_of text)) in
    simp (le-ltb (value_of (digits_of text)) 18446744073709551616 (omega (arith, next, more, loop.invariant.1)))

pub loop-i-preserved : goal.loop-i-preserved
loop-i-preserved c =
    let loop = c.loop-i in
    let text = c.args.text.now in
    (omega arith, value-next text loop.v loop.i c.digit-d.result (omega arith) c.digit-d.ensures ∙ loop.invariant.1)

pub returns : goal.returns
returns c =
    let loop = c.loop-i in
    let text = c.args.text.now in
    let all : loop.v ≡ value_of (digits_of text) = sym (value-end text loop.v loop.i (omega arith)) ∙ loop.invariant.1 in
    simp (lt-ltb (value_of (digits_of text)) 18446744073709551616 (omega arith)) (ap Ok all)
