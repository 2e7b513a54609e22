-- `replay::wire::element` meets its contract: by how many bytes an element has.
-- Assumes nothing.
use Rattle.std.proofs.Common.{◌≡◌, sym, ap, ◌∙◌, arith}
use Rattle.little.specs.Little.{little}
use Rattle.little.proofs.Little.{little-one, little-within}
use Rattle.replay.proofs.Elements.{is_eight}
use Rattle.replay.proofs.wire.element.Goals as goal

pub returns-in-1 : goal.returns-in-1
returns-in-1 c =
    let args = c.args in
    let l = args.bytes.now in
    c.widen.ensures ∙ little-one l args.at ∙ ap (little l args.at) (sym c.in-1.is)

pub returns-in-2 : goal.returns-in-2
returns-in-2 c =
    let args = c.args in
    let l = args.bytes.now in
    let e : args.size ≡ 2 = c.in-2.is in
    c.widen-in-2.ensures ∙ c.pair.ensures ∙ little-within l args.at 2 (omega arith) ∙ ap (little l args.at) (sym e)

pub returns-in-4 : goal.returns-in-4
returns-in-4 c =
    let args = c.args in
    let l = args.bytes.now in
    let e : args.size ≡ 4 = c.in-4.is in
    c.widen-in-4.ensures ∙ c.quad.ensures ∙ little-within l args.at 4 (omega arith) ∙ ap (little l args.at) (sym e)

pub returns-in_default : goal.returns-in_default
returns-in_default c =
    let args = c.args in
    let l = args.bytes.now in
    let e : args.size ≡ 8 = is_eight args.size c.requires.size_value (λ h. omega arith) (λ h. omega arith) (λ h. omega arith) in
    c.word.ensures ∙ little-within l args.at 8 (omega arith) ∙ ap (little l args.at) (sym e)
