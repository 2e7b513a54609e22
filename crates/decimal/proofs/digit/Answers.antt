-- `decimal::digit` meets its contract.
-- Assumes nothing.
use borrow.Author.Tests.{lt-leb, le-leb}
use Rattle.decimal.proofs.digit.Goals as goal

pub returns-then-byte-lt48 : goal.returns-then-byte-lt48
returns-then-byte-lt48 c = simp (lt-leb _ _ c.if-byte-lt48.true)

pub returns : goal.returns
returns c = simp (le-leb _ _ c.if-byte-lt48.false)
