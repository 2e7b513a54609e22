-- `bodies::walks::raised_out` meets its contract: each width has its walk.
-- Assumes nothing.
use mathlib.Core.Path.{◌≡◌, sym, ap, ◌∙◌}
use native.Mathlib.Omega.{arith}
use Rattle.places.specs.Sizes.{t64}
use Rattle.deltas.specs.Deltas.{unfor_pack_of}
use Rattle.bodies.specs.Bodies.{packed_from}
use Rattle.bodies.proofs.Bytes.{no_words}
use Rattle.bodies.proofs.walks.raised_out.Goals as goal

pub returns-in-0 : goal.returns-in-0
returns-in-0 c =
    let none : c.args.width ≡ 0 = omega arith in
    let body = c.args.body.now in
    c.raised_none.ensures
    ∙ ap (λ p. unfor_pack_of t64 0 p c.args.reference) (no_words body)
    ∙ ap (λ w. unfor_pack_of t64 w (packed_from body 0 w) c.args.reference) (sym none)

pub returns-in_default : goal.returns-in_default
returns-in_default c =
    let full : c.args.width ≡ t64 = omega arith in
    let body = c.args.body.now in
    c.raised_copy.ensures
    ∙ ap (λ w. unfor_pack_of t64 w (packed_from body 0 w) c.args.reference) (sym full)
