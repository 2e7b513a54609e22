-- `candidates::differences::pack_steps` meets its contract: each of the three widths' rules is the one sum.
-- Assumes nothing.
use Rattle.std.proofs.Common.{◌≡◌, sym, ap, ◌∙◌, arith}
use Rattle.places.specs.Sizes.{t64}
use Rattle.packing.specs.Packed.{pack_of}
use Rattle.packing.proofs.Rounds.{width-zero_only}
use Rattle.candidates.specs.Candidates.{differences}
use Rattle.candidates.proofs.differences.pack_steps.Goals as goal

pub returns-in-0 : goal.returns-in-0
returns-in-0 c =
    let zero-width : c.args.width ≡ 0 = c.in-0.is in
    rw zero-width (width-zero_only t64 (differences c.args.values.now) _ (omega arith))

pub returns-in_default : goal.returns-in_default
returns-in_default c =
    let full : c.args.width ≡ t64 = omega arith in
    c.steps_copy.ensures ∙ ap (λ w. pack_of t64 w (differences c.args.values.now)) (sym full)
