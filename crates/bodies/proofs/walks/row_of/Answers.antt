-- `bodies::walks::row_of` meets its contract: the part that is lent has the bytes of LANES words.
-- Assumes nothing.
use mathlib.Core.Path.{refl, ap, ◌∙◌}
use native.Mathlib.Nat.{add-sub_cancel_left}
use lib.ListN.{take, drop, replicate}
use Rattle.little.specs.Little.{read_leaves}
use Rattle.bodies.proofs.Bytes.{words-part}
use Rattle.bodies.proofs.walks.row_of.Goals as goal

pub returns : goal.returns
returns c =
    let body = c.args.body.now in
    let a = c.args.a in
    c.read_words.ensures
    ∙ ap (λ n. read_leaves 8 (take n (drop a body)) (replicate 16 0)) (add-sub_cancel_left a 128)
    ∙ words-part body (replicate 16 0) a 16 refl c.requires
