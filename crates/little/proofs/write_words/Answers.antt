-- `little::write_words` meets its contract: by the test that the bytes fit.
-- Assumes nothing.
use mathlib.Core.Path.{sym, ◌∙◌}
use native.Mathlib.Omega.{arith}
use Rattle.little.proofs.Bytes.{write_all, write-none}
use Rattle.little.proofs.write_words.Goals as goal

pub returns-then-bytes-words : goal.returns-then-bytes-words
returns-then-bytes-words c =
    let args = c.args in
    c.lay_words.ensures ∙ sym (write_all 8 args.words.now args.bytes.now (omega arith))

pub returns-else-bytes-words : goal.returns-else-bytes-words
returns-else-bytes-words c =
    let args = c.args in
    sym (write-none 8 args.words.now args.bytes.now (omega arith))
