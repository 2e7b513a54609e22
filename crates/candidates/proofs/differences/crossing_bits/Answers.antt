-- `candidates::differences::crossing_bits` meets its contract: what it has fits a width exactly when the differences
-- passed do.
-- Assumes nothing.
use Rattle.std.proofs.Common.{◌≡◌, ◌+◌, ◌^◌, ◌<◌, sym, ap, ◌∙◌, arith}
use lib.Bits.{bit_or, or_lt}
use Rattle.lists.specs.Numbers.{Elements}
use Rattle.lists.proofs.Tabs.{length-tab, get_d_tab}
use Rattle.places.specs.Sizes.{t64}
use Rattle.candidates.proofs.Widths.{joined-none, joined-next, joined_all}
use Rattle.candidates.proofs.Steps.{step, step_wraps}
use Rattle.candidates.proofs.differences.crossing_bits.Goals as goal

pub loop-l-init : goal.loop-l-init
loop-l-init c = (omega arith, joined-none _)

pub loop-l-preserved : goal.loop-l-preserved
loop-l-preserved c =
    let loop = c.loop-l in
    let v = c.args.values.now in
    let l = loop.l in
    let from = c.args.from in
    let to = c.args.to in
    let more = c.wrapping_sub_u64-any.result in
    let fits : Elements t64 v = λ i. omega (arith, c.type_inv.values i) in
    let small : more < 2 ^ 64 = omega arith in
    let is : more ≡ step v (to + l) (from + l) = step_wraps v fits (to + l) (from + l) more small c.wrapping_sub_u64-any.ensures.value in
    let here : l < 16 = omega arith in (
      or_lt 64 loop.any more loop.invariant.0 small,
      joined-next _ loop.invariant.1 (omega (arith, length-tab 16 (λ l. step v (to + l) (from + l)))) (ap (bit_or loop.any) (is ∙ sym (get_d_tab 16 (λ l. step v (to + l) (from + l)) l 0 here))),
    )

pub returns : goal.returns
returns c =
    joined_all c.loop-l.invariant.1 c.loop-l.invariant.0 (omega (arith, length-tab 16 (λ l. step c.args.values.now (c.args.to + l) (c.args.from + l))))
