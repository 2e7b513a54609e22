-- `stream::elements::U8Streamed8128::read` meets its contract: a number of one byte is that byte.
-- Assumes nothing.
use Rattle.std.proofs.Common.{◌+◌, length, sym, ◌∙◌, arith}
use borrow.Author.Tests.{lt-leb}
use Rattle.little.proofs.Little.{little-one, little-within, little_missing}
use Rattle.stream.proofs.elements.U8Streamed8128.read.Goals as goal

pub returns-then-at-bytes : goal.returns-then-at-bytes
returns-then-at-bytes c = little-one _ _ ∙ sym (little-within _ _ 1 (omega arith))

pub returns-else-at-bytes : goal.returns-else-at-bytes
returns-else-at-bytes c =
    let args = c.args in sym (little_missing args.bytes.now args.at 1 (lt-leb (args.at + 1) (length args.bytes.now) (omega arith)))
