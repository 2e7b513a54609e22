-- `files::lookup::word_at` meets its contract: the part that is lent has the eight bytes.
-- Assumes nothing.
use Rattle.std.proofs.Common.{◌*◌, take, drop, ap, ◌∙◌, add-zero, arith}
use native.Mathlib.Nat.{add-sub_cancel_left}
use Rattle.little.specs.Little.{little, little_or}
use Rattle.contents.proofs.Parts.{part-number}
use Rattle.files.proofs.lookup.word_at.Goals as goal

pub returns : goal.returns
returns c =
    let body = c.args.body.now in
    let a = c.args.i * 8 in
    c.word.ensures
    ∙ ap (λ n. little_or (take n (drop a body)) 0 8) (add-sub_cancel_left a 8)
    ∙ part-number body a 8 0 8 c.requires (omega arith)
    ∙ ap (λ n. little body n 8) (add-zero a)
