-- `candidates::differences::step_bits` meets its contract: what the first loop has fits a width exactly when the
-- differences within the eights that it passed do, and what the second has when those and the crossings that it passed
-- do.
-- Assumes nothing.
use Rattle.std.proofs.Common.{◌≡◌, ◌+◌, ◌*◌, ◌^◌, ◌<◌, sym, ap, ◌∙◌, arith}
use lib.Bits.{bit_or, or_lt}
use Rattle.lists.specs.Numbers.{Elements}
use Rattle.lists.proofs.Tabs.{length-tab, get_d_tab}
use Rattle.places.specs.Places.{place}
use Rattle.places.specs.Sizes.{t64}
use Rattle.places.proofs.Places.{size64, row_within}
use Rattle.rows.proofs.Blocks.{start-room}
use Rattle.candidates.proofs.Widths.{joined-none, joined-next}
use Rattle.candidates.proofs.Steps.{step, step_wraps, stepped_none, stepped_next, stepped_all}
use Rattle.candidates.proofs.differences.step_bits.Goals as goal
use Rattle.candidates.proofs.differences.step_bits.Goals.{After-row_start, After-row_start-in-loop-o}

pub loop-p-init : goal.loop-p-init
loop-p-init c = (omega arith, joined-none _)

pub loop-p-preserved : goal.loop-p-preserved
loop-p-preserved c =
    let loop = c.loop-p in
    let v = c.args.values.now in
    let p = loop.p in
    let more = c.wrapping_sub_u64-any.result in
    let fits : Elements t64 v = λ i. omega (arith, c.type_inv.values i) in
    let small : more < 2 ^ 64 = omega arith in
    let is : more ≡ step v (p + 128) p = step_wraps v fits (p + 128) p more small c.wrapping_sub_u64-any.ensures.value in
    let here : p < 896 = omega arith in (
      or_lt 64 loop.any more loop.invariant.0 small,
      joined-next _ loop.invariant.1 (omega (arith, length-tab 896 (λ p. step v (p + 128) p))) (ap (bit_or loop.any) (is ∙ sym (get_d_tab 896 (λ p. step v (p + 128) p) p 0 here))),
    )

pub loop-o-init : goal.loop-o-init
loop-o-init c = stepped_none c.loop-p.invariant.0 c.loop-p.invariant.1 c.loop-p-test.false

-- where the two rows of a crossing start
from_is : (c : After-row_start) → c.row_start.result ≡ place (c.loop-o.o * 8 + 7) 0
from_is c = let o = c.loop-o.o in c.row_start.ensures ∙ row_within o 7 (omega arith) (omega arith)

to_is : (c : After-row_start-in-loop-o) → c.row_start-in-loop-o.result ≡ place ((c.loop-o.o + 1) * 8) 0
to_is c =
    let o = c.loop-o.o in
    let row : (o + 1) * 8 + 0 ≡ (o + 1) * 8 = omega arith in
    c.row_start-in-loop-o.ensures ∙ row_within (o + 1) 0 (omega arith) (omega arith) ∙ ap (λ r. place r 0) row

pub crossing_bits-any-requires : goal.crossing_bits-any-requires
crossing_bits-any-requires c =
    let o = c.loop-o.o in (
      omega (arith, from_is (goal.at.crossing_bits-any-requires c).After-row_start, start-room size64 (o * 8 + 7) (omega arith), c.requires),
      omega (arith, to_is (goal.at.crossing_bits-any-requires c).After-row_start-in-loop-o, start-room size64 ((o + 1) * 8) (omega arith), c.requires),
    )

pub loop-o-preserved : goal.loop-o-preserved
loop-o-preserved c =
    let small : c.crossing_bits-any.result < 2 ^ 64 = omega arith in
    stepped_next c.crossing_bits-any.result _ _ c.loop-o.invariant (from_is (goal.at.loop-o-preserved c).After-row_start) (to_is (goal.at.loop-o-preserved c).After-row_start-in-loop-o) small c.crossing_bits-any.ensures

pub returns : goal.returns
returns c =
    let v = c.args.values.now in
    let fits : Elements t64 v = λ i. omega (arith, c.type_inv.values i) in
    stepped_all v fits c.loop-o.invariant (omega arith)
