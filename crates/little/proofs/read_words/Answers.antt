-- `little::read_words` meets its contract: by the test that there are enough bytes.
-- Assumes nothing.
use mathlib.Core.Path.{sym, ◌∙◌}
use native.Mathlib.Omega.{arith}
use Rattle.little.proofs.Little.{read_all, read_none}
use Rattle.little.proofs.read_words.Goals as goal

pub returns-then-words-bytes : goal.returns-then-words-bytes
returns-then-words-bytes c =
    let args = c.args in
    c.fill_words.ensures ∙ sym (read_all 8 args.bytes.now args.words.now (omega arith))

pub returns-else-words-bytes : goal.returns-else-words-bytes
returns-else-words-bytes c =
    let args = c.args in
    sym (read_none 8 args.bytes.now args.words.now (omega arith))
