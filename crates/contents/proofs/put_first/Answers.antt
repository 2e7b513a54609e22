-- `contents::put_first` meets its contract: two bytes and three numbers, one behind the other, are the first sixteen
-- bytes of an entry.
-- Assumes nothing.
use mathlib.Core.Path.{sym, ap, ◌∙◌}
use Prim.Native.Nat.{◌+◌}
use native.Mathlib.Omega.{arith}
use lib.ListN.{length-set}
use Rattle.little.specs.Little.{put_leaves}
use Rattle.contents.proofs.Bytes.{first_put, first-left}
use Rattle.contents.proofs.put_first.Goals as goal

pub returns-then-bytes-lt16 : goal.returns-then-bytes-lt16
returns-then-bytes-lt16 c =
    let args = c.args in
    sym (first-left args.e args.at args.bytes.now (omega arith))

pub returns-then-bytes-at : goal.returns-then-bytes-at
returns-then-bytes-at c =
    let args = c.args in
    sym (first-left args.e args.at args.bytes.now (omega arith))

pub bounds-bytes-at-2 : goal.bounds-bytes-at-2
bounds-bytes-at-2 c = simp length-set (omega arith)

pub returns : goal.returns
returns c =
    let args = c.args in
    c.put_word.ensures
    ∙ ap (put_leaves 8 args.e.reference (args.at + 8))
    (c.put_quad.ensures ∙ ap (put_leaves 4 args.e.length (args.at + 4)) c.put_pair.ensures)
    ∙ first_put args.e args.at args.bytes.now (omega arith)
