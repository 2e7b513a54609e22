-- `contents::put_entry` meets its contract: the first sixteen bytes and two numbers, one behind the other, are an
-- entry.
-- Assumes nothing.
use mathlib.Core.Path.{sym, ap, ◌∙◌}
use Prim.Native.Nat.{◌+◌}
use native.Mathlib.Omega.{arith}
use Rattle.little.specs.Little.{put_leaves}
use Rattle.contents.proofs.Bytes.{entry_put, entry-left}
use Rattle.contents.proofs.put_entry.Goals as goal

pub returns-then-bytes-lt32 : goal.returns-then-bytes-lt32
returns-then-bytes-lt32 c =
    let args = c.args in
    sym (entry-left args.e args.r args.at args.bytes.now (omega arith))

pub returns-then-bytes-at : goal.returns-then-bytes-at
returns-then-bytes-at c =
    let args = c.args in
    sym (entry-left args.e args.r args.at args.bytes.now (omega arith))

pub returns : goal.returns
returns c =
    let args = c.args in
    c.put_word-2.ensures
    ∙ ap (put_leaves 8 args.r.largest (args.at + 24))
    (c.put_word.ensures ∙ ap (put_leaves 8 args.r.smallest (args.at + 16)) c.put_first.ensures)
    ∙ entry_put args.e args.r args.at args.bytes.now (omega arith)
