-- `listing::go_on` meets its contract, by whether a block is left.
-- Assumes nothing.
use mathlib.Core.Path.{sym, ap, ap₂, ◌∙◌}
use native.Mathlib.Omega.{arith}
use lib.ListN.{length}
use Rattle.lists.specs.Tab.{over}
use Rattle.wishes.specs.declared.Wish.TheVariants.{Write}
use Rattle.listing.specs.declared.Stage.TheVariants.{End}
use Rattle.listing.specs.Text.{last_lines}
use Rattle.listing.specs.Machine.{turn_to, turn_of}
use Rattle.listing.proofs.Stages.{on_more, on_over}
use Rattle.listing.proofs.go_on.Goals as goal

pub returns-then-state-blocks_in_both : goal.returns-then-state-blocks_in_both
returns-then-state-blocks_in_both c =
    let args = c.args in
    let is = on_more args.state args.left_front.now args.right_front.now args.out.now (omega (arith, c.blocks_in_both.ensures, c.if-state-blocks_in_both.true)) in
    record { value = c.ask_again.ensures ∙ sym (ap turn_of is); out_after = sym (ap (λ g. g.out) is) }

pub returns : goal.returns
returns c =
    let args = c.args in
    let s = args.state in
    let is = on_over s args.left_front.now args.right_front.now args.out.now (omega (arith, c.blocks_in_both.ensures, c.if-state-blocks_in_both.false)) in
    let text = ap₂ (λ a b. last_lines a b s.differences) c.row_count.ensures c.row_count-2.ensures in record { value = c.turn_to.ensures ∙ ap (λ n. turn_to s End (Write n)) (c.put_last-n.ensures.value ∙ ap length text) ∙ sym (ap turn_of is); out_after = c.put_last-n.ensures.out_after ∙ ap (λ x. over 0 x args.out.now) text ∙ sym (ap (λ g. g.out) is) }
