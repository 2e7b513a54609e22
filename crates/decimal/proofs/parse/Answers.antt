-- `decimal::parse` meets its contract.
-- Assumes nothing.
use Rattle.std.specs.Prelude.{Err}
use mathlib.Core.Path.{ap}
use Prim.Native.Nat.{◌≤◌, ◌<◌}
use native.Mathlib.Omega.{arith}
use lib.ListN.{length}
use borrow.Author.Tests.{eq-eqb, ne_eqb, lt-ltb, le-ltb}
use Rattle.lists.specs.Search.{first_beyond}
use Rattle.decimal.specs.declared.NoNumber.TheVariants.{Other}
use Rattle.decimal.specs.Decimal.{digits_of}
use Rattle.decimal.proofs.Texts.{digits_length}
use Rattle.decimal.proofs.parse.Goals as goal

pub returns-then-text-eq0 : goal.returns-then-text-eq0
returns-then-text-eq0 c = simp (eq-eqb _ _ c.if-text-eq0.true)

pub returns-then-p-text : goal.returns-then-p-text
returns-then-p-text c =
    let text = c.args.text.now in
    let other : first_beyond 10 (digits_of text) < length (digits_of text) = omega (arith, c.first_other-p.ensures, digits_length text) in
    simp (ne_eqb _ _ c.if-text-eq0.false, lt-ltb _ _ other) (ap (λ q. Err (Other q)) c.first_other-p.ensures)

pub returns : goal.returns
returns c =
    let text = c.args.text.now in
    let all : length (digits_of text) ≤ first_beyond 10 (digits_of text) = omega (arith, c.first_other-p.ensures, digits_length text) in
    simp (ne_eqb _ _ c.if-text-eq0.false, le-ltb _ _ all) c.read_digits.ensures
